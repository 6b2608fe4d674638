-- What an answer under a test tells of the test.
use Rattle.std.proofs.Common.{◌≡◌, Bool, true, false, cond, Option, Some, None, Ok, Err, refl, sym, arith}
use Rattle.std.specs.Option.{ok_or}
use Rattle.std.proofs.lemmas.Option.{cond_some}

pub none_from : {X : Type 0} (b : Bool) (x : X) → None ≡ cond b (Some x) None → b ≡ false
none_from true x e = absurd (grind (arith, e))
none_from false x e = refl

pub some_from_lem : {X : Type 0} (b : Bool) (x y : X) → Some y ≡ cond b (Some x) None → (b ≡ true) × (y ≡ x)
some_from_lem b x y e = let p = cond_some b x y (sym e) in (p.0, sym p.1)

pub ok_from : {X E : Type 0} (b : Bool) (x y : X) (e : E) → cond b (Ok x) (Err e) ≡ Ok y → (b ≡ true) × (y ≡ x)
ok_from true x y e h = (refl, cc)
ok_from false x y e h = absurd (grind (arith, h))

pub err_from : {X E : Type 0} (b : Bool) (x : X) (e d : E) → cond b (Ok x) (Err e) ≡ Err d → (b ≡ false) × (d ≡ e)
err_from true x e d h = absurd (grind (arith, h))
err_from false x e d h = (refl, cc)

-- what `ok_or` answers of a value that a test gives
pub ok_or_ok : {X E : Type 0} (b : Bool) (x y : X) (e : E) (o : Option X) → Ok y ≡ ok_or o e → o ≡ cond b (Some x) None → (b ≡ true) × (y ≡ x)
ok_or_ok b x y e None h p = absurd (grind (arith, h))
ok_or_ok b x y e (Some z) h p = let q = some_from_lem b x z p in (q.0, cc)

pub ok_or_err : {X E : Type 0} (b : Bool) (x : X) (d e : E) (o : Option X) → Err d ≡ ok_or o e → o ≡ cond b (Some x) None → (b ≡ false) × (d ≡ e)
ok_or_err b x d e None h p = (none_from b x p, cc)
ok_or_err b x d e (Some z) h p = absurd (grind (arith, h))
