-- One list more: the lists, their attributes and their entries.
use Rattle.std.specs.Prelude.{ℕ, suc, ◌+◌, ◌≡◌, List, [], ◌∷◌, ◌++◌, map, length}
use Rattle.std.proofs.Common.{sym, ap, ◌∙◌, append_assoc, append-nil, add-zero, zero-add, arith}
use Rattle.membership.specs.Entries.{entry}
use Rattle.instantiation.specs.Instantiation.{all_listed}
use Rattle.instantiation.specs.Gathering.{listed_from}

module _ (l : List ℕ) where
  from_more : (s : ℕ) (ls : List (List ℕ)) → listed_from s (ls ++ (l ∷ [])) ≡ listed_from s ls ++ map (λ a. entry a (s + length ls)) l
  from_more s [] = rw (add-zero s) (append-nil (map (λ a. entry a s) l))
  from_more s (k ∷ ls) =
      let next : s + suc (length ls) ≡ s + 1 + length ls = omega arith in
      rw next
      (ap (λ (m : List ℕ). map (λ a. entry a s) k ++ m) (from_more (s + 1) ls)
      ∙ sym (append_assoc (map (λ a. entry a s) k) (listed_from (s + 1) ls) (map (λ a. entry a (s + 1 + length ls)) l)))

  pub entries-more : (ls : List (List ℕ)) → listed_from 0 (ls ++ (l ∷ [])) ≡ listed_from 0 ls ++ map (λ a. entry a (length ls)) l
  entries-more ls = rw (zero-add (length ls)) at (from_more 0 ls)

  pub listed_more : (ls : List (List ℕ)) → all_listed (ls ++ (l ∷ [])) ≡ all_listed ls ++ l
  listed_more [] = append-nil l
  listed_more (k ∷ ls) = ap (λ (m : List ℕ). k ++ m) (listed_more ls) ∙ sym (append_assoc k (all_listed ls) l)
