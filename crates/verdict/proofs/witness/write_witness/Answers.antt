use Rattle.verdict_answer.specs.VerdictLaws.{witness-from}
use Rattle.verdict.proofs.witness.write_witness.Goals as goal

pub write_schema-requires : goal.write_schema-requires
write_schema-requires c =
    let pre = c.requires in
    record {
      m_bound = pre.m_bound.0;
      writes_from = witness-from _ _ _ _ c.maps_from-special.ensures pre.subsets_len.1 pre.subsets_len.2 pre.subsets_len.3;
      schema_size_in_bounds = (pre.m_bound.1, pre.subsets_len.2);
    }

pub returns : goal.returns
returns c =
    rw (← c.maps_from-special.ensures) (record { value = c.write_schema.ensures.value; schema_after = c.write_schema.ensures.out_after })
