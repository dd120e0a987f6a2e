use Rattle.std.proofs.Common.{ℕ, List, ◌++◌, ◌≤◌, ◌≡◌, length, drop, replicate, take, ap, ◌∙◌, rules, length-take-le}
use Rattle.std.proofs.lemmas.List.{length-replicate, get_or-replicate}
use Rattle.bits.specs.Tab.{tab, tab-is, length-tab, over, over-with}
use Rattle.instantiation_writer.proofs.maps.clear_map.Goals as goal

zeros : (n : ℕ) → replicate {A = ℕ} n 0 ≡ tab n (λ j. 0)
zeros n = tab-is n (λ j. 0) 0 (replicate {A = ℕ} n 0) (length-replicate {A = ℕ} n 0) (λ i h. get_or-replicate {A = ℕ} n i 0 0 h)

part-cleared : (out part : List ℕ) (n : ℕ) → n ≤ length out → part ≡ replicate {A = ℕ} (length (take n out)) 0 → part ++ drop n out ≡ over (tab n (λ j. 0)) out
part-cleared out part n room is =
    rw (over-with (tab n (λ j. 0)) out, length-tab {A = ℕ} n (λ j. 0))
    (ap (λ (l : List ℕ). l ++ drop n out) (is ∙ ap (λ (k : ℕ). replicate {A = ℕ} k 0) (length-take-le n out room) ∙ zeros n))

pub returns : goal.returns
returns c = part-cleared c.args.out.now c.fill.new.self 32 c.requires (c.fill.ensures.after (λ y h. search rules))
