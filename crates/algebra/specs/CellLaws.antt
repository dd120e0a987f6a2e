-- Laws of cells, for every choice of kinds and a general column.
use Rattle.std.specs.Prelude.{ℕ, ◌<◌, ◌≡◌, refl, true, false, not}
use Rattle.attribute_set.specs.AttrSet.{special}
use Rattle.algebra.specs.Expression.{Operator, union, difference, join, product, SetOperator, selection, projection, Expression, relation, binary, with_set, renaming, projecting_out, Legal}
use Rattle.algebra.specs.Cell.{Kinds, out, ok, breaks, yields, breaks_set, yields_set}
use Rattle.algebra.specs.Columns.{Alike, single, single-within, absent-zero}

-- a cell depends on the column's special attribute and on the relations below m alone
pub cell-alike :
    (K : Kinds) (m : ℕ) (e : Expression)
    → Legal m e
    → (c d : ℕ)
    → Alike c d
    → (held held' : ℕ → K.Value)
    → ((r : ℕ) → r < m → held r ≡ held' r)
    → (ok K e c held ≡ ok K e d held') × (out K e c held ≡ out K e d held')
cell-alike K m (relation r) legal c d alike held held' same = (refl, same r legal)
cell-alike K m (binary op e f) legal c d alike held held' same =
    let l = cell-alike K m e legal.0 c d alike held held' same in
    let r = cell-alike K m f legal.1 c d alike held held' same in
    (cc, cc)
cell-alike K m (with_set op s e) legal c d alike held held' same =
    let v = cell-alike K m e legal.1 c d alike held held' same in
    let named = alike s legal.0 in
    (cc, cc)
cell-alike K m (renaming old new e) legal c d alike held held' same =
    let v = cell-alike K m e legal.2 c d alike held held' same in
    let is-old = alike (single old) (single-within old special legal.0) in
    let is-new = alike (single new) (single-within new special legal.1) in
    (cc, cc)
cell-alike K m (projecting_out old e) legal c d alike held held' same =
    let v = cell-alike K m e legal.1 c d alike held held' same in
    let is-old = alike (single old) (single-within old special legal.0) in
    (cc, cc)

-- a cell depends on the relations below m alone
pub cell-depends : (K : Kinds) (m : ℕ) (e : Expression) → Legal m e → (c : ℕ) (held held' : ℕ → K.Value) → ((r : ℕ) → r < m → held r ≡ held' r) → (ok K e c held ≡ ok K e c held') × (out K e c held ≡ out K e c held')
cell-depends K m e legal c held held' same = cell-alike K m e legal c c (λ s named. refl) held held' same

none-binary : (K : Kinds) → K.has K.none ≡ false → K.same K.none K.none ≡ true → (op : Operator) → (not (breaks K op K.none K.none) ≡ true) × (yields K op K.none K.none ≡ K.none)
none-binary K lacks equal union = (rw equal, refl)
none-binary K lacks equal difference = (rw equal, refl)
none-binary K lacks equal join = (rw lacks, rw lacks)
none-binary K lacks equal product = (rw lacks, rw lacks)

none-set : (K : Kinds) (op : SetOperator) → (not (breaks_set K op false K.none) ≡ true) × (yields_set K op false K.none ≡ K.none)
none-set K selection = (refl, refl)
none-set K projection = (refl, refl)

-- an attribute that no relation has and no set names breaks no rule, and the result lacks it
pub cell-none : (K : Kinds) → K.has K.none ≡ false → K.same K.none K.none ≡ true → (m : ℕ) (e : Expression) → Legal m e → (ok K e 0 (λ r. K.none) ≡ true) × (out K e 0 (λ r. K.none) ≡ K.none)
cell-none K lacks equal m (relation r) legal = (refl, refl)
cell-none K lacks equal m (binary op e f) legal =
    let l = cell-none K lacks equal m e legal.0 in
    let r = cell-none K lacks equal m f legal.1 in
    let free = none-binary K lacks equal op in
    (rw (l.0, r.0, l.1, r.1) free.0, rw (l.1, r.1) free.1)
cell-none K lacks equal m (with_set op s e) legal =
    let v = cell-none K lacks equal m e legal.1 in
    let free = none-set K op in
    let named = absent-zero s legal.0 in
    (rw (v.0, v.1, named) free.0, rw (v.1, named) free.1)
cell-none K lacks equal m (renaming old new e) legal =
    let v = cell-none K lacks equal m e legal.2 in
    let is-old = absent-zero (single old) (single-within old special legal.0) in
    let is-new = absent-zero (single new) (single-within new special legal.1) in
    (rw (v.0, is-old, is-new), rw (v.1, is-old, is-new))
cell-none K lacks equal m (projecting_out old e) legal =
    let v = cell-none K lacks equal m e legal.1 in
    let is-old = absent-zero (single old) (single-within old special legal.0) in
    (rw (v.0, is-old), rw (v.1, is-old))
