-- Laws of the tests after a file is accepted: which refusal comes, and what holds where none does.
use Rattle.std.specs.Prelude.{ℕ, ◌*◌, ◌≤◌, ◌<◌, refl, Bool, true, false, List, Result, Err, Ok}
use Rattle.std.proofs.Math.Path.{◌≡◌, ap}
use Rattle.std.proofs.Common.{◌∙◌, arith, lit≤}
use borrow.Author.Tests.{lt-ltb, le-ltb, le-leb, lt-leb, leb-false, ltb-false}
use Rattle.std.proofs.Math.Dec.{ltb, leb}
use Rattle.refusal.specs.Chain.{refuse-stops, refuse-passes, refuse-past, refuse-has}
use Rattle.refusal.specs.Number.{number_of}
use Rattle.refusal.specs.declared.Refusal.{Refusal}
use Rattle.refusal.specs.declared.Refusal.TheVariants.{NodeNumber, WorkSpace, ResultSlice}
use Rattle.expression_file.specs.ReadFile.{acceptance, Accepted}
use Rattle.expression_file.specs.Accepted.{accepted-file, file-refused}
use Rattle.admission.specs.Admission.{tested, asked, spaced, admitted, sliced, formula_size}
use Rattle.expression_file.specs.declared.files.Header.{Header}

-- ---- one test

module _ (a : Result Header Refusal) (test : ℕ → Bool) (q : Refusal) where
  pub tested-refused : {r : Refusal} → a ≡ Err r → tested a test q ≡ Err r
  unfolding tested
  tested-refused e = rw e

  pub tested-stops : {m n : ℕ} → a ≡ Accepted m n → test n ≡ true → tested a test q ≡ Err q
  unfolding tested
  tested-stops {m} {n} e t = rw e (refuse-stops Err (test n) q (Accepted m n) t)

  pub tested-passes : {m n : ℕ} → a ≡ Accepted m n → test n ≡ false → tested a test q ≡ Accepted m n
  unfolding tested
  tested-passes {m} {n} e t = rw e (refuse-passes Err (test n) q (Accepted m n) t)

  pub passed : {m n : ℕ} → tested a test q ≡ Accepted m n → (a ≡ Accepted m n) × (test n ≡ false)
  unfolding tested
  passed {m} {n} = go a
    where
      go : (b : Result Header Refusal) → tested b test q ≡ Accepted m n → (b ≡ Accepted m n) × (test n ≡ false)
      go (Err r) e = absurd (let z : ◌≡◌ {A = ℕ} 0 1 = cc in omega arith)
      go (Ok h) e =
          let past = refuse-past Err (test h.nodes) q (Accepted h.relations h.nodes) (λ r. let z : ◌≡◌ {A = ℕ} 0 1 = cc in omega arith) e in
          let is : Accepted h.relations h.nodes ≡ Accepted m n = past.1 in
          let same : n ≡ h.nodes = cc in
          (is, ap test same ∙ past.0)

-- the refusal of a test is its own or came before
pub tested-number : (a : Result Header Refusal) (test : ℕ → Bool) (q : Refusal) (most : ℕ) → ((r : Refusal) → a ≡ Err r → number_of r ≤ most) → number_of q ≤ most → (r : Refusal) → tested a test q ≡ Err r → number_of r ≤ most
unfolding tested
tested-number a test q most before own r e = go a refl e
  where
    go : (b : Result Header Refusal) → a ≡ b → tested b test q ≡ Err r → number_of r ≤ most
    go (Err p) is said = before r (is ∙ said)
    go (Ok h) is said =
        refuse-has (λ (b : Result Header Refusal). b ≡ Err r → number_of r ≤ most) Err (test h.nodes) q (Accepted h.relations h.nodes)
        (λ same. let here : q ≡ r = cc in rw (← here) own) (λ passes other. absurd (let z : ◌≡◌ {A = ℕ} 0 1 = cc in omega arith)) said

-- ---- 13

module _ (a : Result Header Refusal) (size least : ℕ) where
  pub sliced-refused : {r : Refusal} → a ≡ Err r → sliced a size least ≡ Err r
  unfolding sliced
  sliced-refused e = tested-refused a (λ n. ltb size least) ResultSlice e

  pub sliced-stops : {m n : ℕ} → a ≡ Accepted m n → size < least → sliced a size least ≡ Err ResultSlice
  unfolding sliced
  sliced-stops e h = tested-stops a (λ n. ltb size least) ResultSlice e (lt-ltb size least h)

  pub sliced-passes : {m n : ℕ} → a ≡ Accepted m n → least ≤ size → sliced a size least ≡ Accepted m n
  unfolding sliced
  sliced-passes e h = tested-passes a (λ n. ltb size least) ResultSlice e (le-ltb size least h)

  pub sliced-number : (most : ℕ) → 13 ≤ most → ((r : Refusal) → a ≡ Err r → number_of r ≤ most) → (r : Refusal) → sliced a size least ≡ Err r → number_of r ≤ most
  unfolding sliced
  sliced-number most enough before r e = tested-number a (λ n. ltb size least) ResultSlice most before enough r e

  pub sliced-passed : {m n : ℕ} → sliced a size least ≡ Accepted m n → (a ≡ Accepted m n) × (least ≤ size)
  unfolding sliced
  sliced-passed e = let p = passed a (λ n. ltb size least) ResultSlice e in (p.0, ltb-false size least p.1)

-- ---- 1 to 11

module _ (file : List ℕ) (k : ℕ) where
  pub asked-refused : {r : Refusal} → acceptance file ≡ Err r → asked file k ≡ Err r
  unfolding asked
  asked-refused e = tested-refused (acceptance file) (λ n. leb n k) NodeNumber e

  pub asked-stops : {m n : ℕ} → acceptance file ≡ Accepted m n → n ≤ k → asked file k ≡ Err NodeNumber
  unfolding asked
  asked-stops {m} {n} e h = tested-stops (acceptance file) (λ n. leb n k) NodeNumber e (le-leb n k h)

  pub asked-passes : {m n : ℕ} → acceptance file ≡ Accepted m n → k < n → asked file k ≡ Accepted m n
  unfolding asked
  asked-passes {m} {n} e h = tested-passes (acceptance file) (λ n. leb n k) NodeNumber e (lt-leb n k h)

  pub asked-passed : {m n : ℕ} → asked file k ≡ Accepted m n → (acceptance file ≡ Accepted m n) × (k < n)
  unfolding asked
  asked-passed {m} {n} e = let p = passed (acceptance file) (λ n. leb n k) NodeNumber e in (p.0, leb-false n k p.1)

  -- no later refusal comes of it
  pub asked-number : {r : Refusal} → asked file k ≡ Err r → number_of r ≤ 11
  unfolding asked
  asked-number {r} e = tested-number (acceptance file) (λ n. leb n k) NodeNumber 11 (λ q is. let h = file-refused file q is in omega arith) (lit≤ tt) r e

-- ---- 12

module _ (a : Result Header Refusal) (space : ℕ) where
  pub spaced-refused : {r : Refusal} → a ≡ Err r → spaced a space ≡ Err r
  unfolding spaced
  spaced-refused e = tested-refused a (λ n. ltb space (n * formula_size)) WorkSpace e

  pub spaced-stops : {m n : ℕ} → a ≡ Accepted m n → space < n * formula_size → spaced a space ≡ Err WorkSpace
  unfolding spaced
  spaced-stops {m} {n} e h = tested-stops a (λ n. ltb space (n * formula_size)) WorkSpace e (lt-ltb space (n * formula_size) h)

  pub spaced-passes : {m n : ℕ} → a ≡ Accepted m n → n * formula_size ≤ space → spaced a space ≡ Accepted m n
  unfolding spaced
  spaced-passes {m} {n} e h = tested-passes a (λ n. ltb space (n * formula_size)) WorkSpace e (le-ltb space (n * formula_size) h)

  pub spaced-passed : {m n : ℕ} → spaced a space ≡ Accepted m n → (a ≡ Accepted m n) × (n * formula_size ≤ space)
  unfolding spaced
  spaced-passed {m} {n} e = let p = passed a (λ n. ltb space (n * formula_size)) WorkSpace e in (p.0, ltb-false space (n * formula_size) p.1)

-- ---- 1 to 12

-- none applies: node k of an accepted file, and a work space that is long enough
pub record Admits (file : List ℕ) (k space m n : ℕ) : Type 0 where
  pub accepted : acceptance file ≡ Accepted m n
  pub node : k < n
  pub work_space : n * formula_size ≤ space

module _ (file : List ℕ) (k space : ℕ) where
  pub admitted-passed : {m n : ℕ} → admitted file k space ≡ Accepted m n → Admits file k space m n
  unfolding admitted
  admitted-passed e =
      let enough = spaced-passed (asked file k) space e in
      let found = asked-passed file k enough.0 in
      record { accepted = found.0; node = found.1; work_space = enough.1 }

  pub admitted-refused : {r : Refusal} → asked file k ≡ Err r → admitted file k space ≡ Err r
  unfolding admitted
  admitted-refused e = spaced-refused (asked file k) space e

  pub admitted-passes : {m n : ℕ} → Admits file k space m n → admitted file k space ≡ Accepted m n
  unfolding admitted
  admitted-passes a = spaced-passes (asked file k) space (asked-passes file k a.accepted a.node) a.work_space

  -- no later refusal comes of it
  pub admitted-number : (r : Refusal) → admitted file k space ≡ Err r → number_of r ≤ 12
  unfolding admitted spaced
  admitted-number r e = tested-number (asked file k) (λ n. ltb space (n * formula_size)) WorkSpace 12 (λ q is. let h = asked-number file k is in omega arith) (lit≤ tt) r e

-- there are at most eight relations, and the node's number is below 64
pub admits-few : {file : List ℕ} {k space m n : ℕ} → Admits file k space m n → (m ≤ 8) × (k < 64)
admits-few {file} a =
    let counts = (accepted-file file _ _ a.accepted).counts in
    let most = counts.nodes.1 in
    let node = a.node in
    (counts.relations.1, omega arith)

-- ---- 1 to 13

-- one more result slice, after tests that are known
pub sliced-after : (a b c : Result Header Refusal) (size least : ℕ) → c ≡ sliced b size least → b ≡ a → c ≡ sliced a size least
sliced-after a b c size least said is = said ∙ ap (λ (x : Result Header Refusal). sliced x size least) is

pub slice-admits : (file : List ℕ) (k space size least : ℕ) {m n : ℕ} → sliced (admitted file k space) size least ≡ Accepted m n → Admits file k space m n × (least ≤ size)
slice-admits file k space size least e =
    let passes = sliced-passed (admitted file k space) size least e in
    (admitted-passed file k space passes.0, passes.1)
