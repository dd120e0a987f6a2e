use Prim.Native.Nat.{◌^◌}
use mathlib.Core.Path.{refl}
use native.Mathlib.Omega.{arith}
use lib.Pow.{pow_mono, pow_pos}
use Rattle.membership.specs.HolderLaws.{items-taken, taken-fit}
use Rattle.verdict_answer.specs.First.{allowed_at}
use Rattle.verdict_answer.specs.WitnessLaws.{specials-none, specials-size}
use Rattle.verdict_answer.proofs.VerdictLaws.{stored-typable}
use Rattle.set_cover.proofs.BestLaws.{best-least}
use Rattle.cover_table.specs.Table.{first-lent}
use Rattle.cover_choice.specs.Variables.{chosen-entries}
use Rattle.verdict.proofs.witness.chosen_verdict.Goals as goal

pub choose_specials-need-requires : goal.choose_specials-need-requires
choose_specials-need-requires c =
    let pre = c.requires in
    let can = rw (pre.cost_value.0) at pre.cost_value.1 in rw (c.subset_count-count.ensures, c.row_width.ensures) (record {
      subsets_none = refl;
      le_count = (pow_pos c.args.m, pow_mono {j = 8} pre.m_bound.0, pre.table_holds);
      count_bound = can;
    })

pub choose_variables-listed-requires : goal.choose_variables-listed-requires
choose_variables-listed-requires c =
    let pre = c.requires in
    let chosen = rw c.subset_count-count.ensures at c.choose_specials-need.ensures in rw c.subset_count-count.ensures (record {
      all_lt_count = (chosen.below, pow_mono {j = 8} pre.m_bound.0, first-lent _ _ _ 16 _ pre.table_holds (omega arith));
      all_bound = chosen.less;
    })

pub write_witness-size-requires : goal.write_witness-size-requires
write_witness-size-requires c =
    let pre = c.requires in
    let args = c.args in
    let chosen = rw c.subset_count-count.ensures at c.choose_specials-need.ensures in
    let listed = c.choose_variables-listed.ensures in
    let size = items-taken listed.upper_bound.1 in
    let few = listed.upper_bound.0 in
    record {
      m_bound = (pre.m_bound.0, pre.m_bound.1);
      subsets_len = (
        rw (chosen.specials) (specials-size _ (best-least (2 ^ args.m) (allowed_at args.formula.now 0) (pow_mono {j = 8} pre.m_bound.0) 15 _)),
        rw (chosen.specials) (specials-none _),
        omega arith,
        taken-fit listed.upper_bound.1,
      );
    }

pub returns : goal.returns
returns c =
    let pre = c.requires in
    let args = c.args in
    let chosen = rw c.subset_count-count.ensures at c.choose_specials-need.ensures in
    let listed = rw c.subset_count-count.ensures at c.choose_variables-listed.ensures.after in
    let wrote = c.write_witness-size.ensures in
    let can = rw (pre.cost_value.0) at pre.cost_value.1 in
    let both = stored-typable args.m (allowed_at args.formula.now 0) args.schema.now _ _ _ _ _ pre.m_bound.2 can chosen.specials
    (chosen-entries args.m _ (allowed_at args.formula.now 0) _ chosen.variables listed) wrote.value wrote.schema_after pre.cost_value.0 in
    record {
      value = both.0;
      schema_after = both.1;
    }
