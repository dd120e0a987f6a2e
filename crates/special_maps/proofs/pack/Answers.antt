use Rattle.std.proofs.Common.{◌≡◌, Bool, true, false, ℕ, ◌+◌, ◌-◌, ◌*◌, ◌^◌, ◌≤◌, ◌<◌, cond, suc, refl, sym, ◌∙◌, arith, rules, lit<}
use mir.Val.{bool_byte}
use Rattle.std.proofs.Math.Nat.{sub_self}
use Rattle.bits.specs.PackFrom.{from-none, from-lower, from_all}
use Rattle.special_maps.proofs.pack.Goals as goal

bool_bit : (b t : Bool) → b ≡ t → cond t 1 0 ≡ bool_byte b
bool_bit b t same = rw same (elim t as (λ v. cond v 1 0 ≡ bool_byte v) [ true ↦ refl | false ↦ refl ])

bool_few : (b : Bool) → bool_byte b ≤ 1
bool_few true = omega arith
bool_few false = omega arith

one_more : (n i x d : ℕ) → 1 ≤ i → i ≤ n → x < 2 ^ (n - i) → d ≤ 1 → x * 2 + d < 2 ^ (n - (i - 1))
one_more n i x d some most below few = go (n - i) (n - (i - 1)) (omega arith) below
  where
    go : (k k' : ℕ) → k' ≡ suc k → x < 2 ^ k → x * 2 + d < 2 ^ k'
    go k k' is h = rw is (omega arith)

pub loop-i-init : goal.loop-i-init
loop-i-init g c = (omega arith, rw (sub_self c.args.n) (lit< tt), λ f is. sym (from-none c.args.n f))

pub loop-i-preserved : goal.loop-i-preserved
loop-i-preserved g c =
    let inv = c.loop-i.invariant in (
      omega arith,
      one_more c.args.n c.loop-i.i c.loop-i.x (bool_byte c.stands.result) c.loop-i-test.true inv.0 inv.1 (bool_few c.stands.result),
      λ f is.
          let bit = bool_bit c.stands.result (f (c.loop-i.i - 1)) (is (c.loop-i.i - 1) c.stands.result (omega arith) c.stands.ensures) in
          sym (rw (inv.2 f is, ← bit) (from-lower c.args.n f c.loop-i.i c.loop-i-test.true inv.0)),
    )

pub returns : goal.returns
returns g c =
    let none : c.loop-i.i ≡ 0 = omega arith in
    record {
      small = search rules;
      value = λ f is. (rw none at (c.loop-i.invariant.2 f is)) ∙ from_all c.args.n f;
    }
