-- How types that are written out are opened and folded.
use Rattle.std.proofs.Common.{◌≡◌, ℕ, List, map, sym, ap, ◌∙◌}
use Rattle.sil_ast.specs.declared.type_name.TypeName.{TypeName, TypeName-F, fold-TypeName, fold-roll-TypeName, out-TypeName, out-roll-TypeName}
use Rattle.sil_ast.specs.declared.type_name.TypeName.TheVariants as type
use Rattle.sil_ast.specs.declared.type_name.TypeName.TheVariants.{rolls-Int, rolls-Named, rolls-Optional, rolls-Tuple, rolls-Weak, rolls-Unowned, rolls-Address}

pub out-Int : (n : ℕ) → out-TypeName (type.Int n) ≡ TypeName-F.Int n
out-Int n = ap out-TypeName (sym (rolls-Int n)) ∙ out-roll-TypeName (TypeName-F.Int n)

pub out-Named : (name : List ℕ) → out-TypeName (type.Named name) ≡ TypeName-F.Named name
out-Named name = ap out-TypeName (sym (rolls-Named name)) ∙ out-roll-TypeName (TypeName-F.Named name)

pub out-Optional : (t : TypeName) → out-TypeName (type.Optional t) ≡ TypeName-F.Optional t
out-Optional t = ap out-TypeName (sym (rolls-Optional t)) ∙ out-roll-TypeName (TypeName-F.Optional t)

pub out-Tuple : (ts : List TypeName) → out-TypeName (type.Tuple ts) ≡ TypeName-F.Tuple ts
out-Tuple ts = ap out-TypeName (sym (rolls-Tuple ts)) ∙ out-roll-TypeName (TypeName-F.Tuple ts)

pub out-Weak : (t : TypeName) → out-TypeName (type.Weak t) ≡ TypeName-F.Weak t
out-Weak t = ap out-TypeName (sym (rolls-Weak t)) ∙ out-roll-TypeName (TypeName-F.Weak t)

pub out-Unowned : (t : TypeName) → out-TypeName (type.Unowned t) ≡ TypeName-F.Unowned t
out-Unowned t = ap out-TypeName (sym (rolls-Unowned t)) ∙ out-roll-TypeName (TypeName-F.Unowned t)

pub out-Address : (t : TypeName) → out-TypeName (type.Address t) ≡ TypeName-F.Address t
out-Address t = ap out-TypeName (sym (rolls-Address t)) ∙ out-roll-TypeName (TypeName-F.Address t)

module _ (A : Type 0) (step : TypeName-F A → A) where
  abbrev told : TypeName → A
  told = fold-TypeName A step

  pub fold-Int : (n : ℕ) → fold-TypeName A step (type.Int n) ≡ step (TypeName-F.Int n)
  fold-Int n = ap told (sym (rolls-Int n)) ∙ fold-roll-TypeName A step (TypeName-F.Int n)

  pub fold-Named : (name : List ℕ) → fold-TypeName A step (type.Named name) ≡ step (TypeName-F.Named name)
  fold-Named name = ap told (sym (rolls-Named name)) ∙ fold-roll-TypeName A step (TypeName-F.Named name)

  pub fold-Optional : (t : TypeName) → fold-TypeName A step (type.Optional t) ≡ step (TypeName-F.Optional (told t))
  fold-Optional t = ap told (sym (rolls-Optional t)) ∙ fold-roll-TypeName A step (TypeName-F.Optional t)

  pub fold-Tuple : (ts : List TypeName) → fold-TypeName A step (type.Tuple ts) ≡ step (TypeName-F.Tuple (map told ts))
  fold-Tuple ts = ap told (sym (rolls-Tuple ts)) ∙ fold-roll-TypeName A step (TypeName-F.Tuple ts)

  pub fold-Weak : (t : TypeName) → fold-TypeName A step (type.Weak t) ≡ step (TypeName-F.Weak (told t))
  fold-Weak t = ap told (sym (rolls-Weak t)) ∙ fold-roll-TypeName A step (TypeName-F.Weak t)

  pub fold-Unowned : (t : TypeName) → fold-TypeName A step (type.Unowned t) ≡ step (TypeName-F.Unowned (told t))
  fold-Unowned t = ap told (sym (rolls-Unowned t)) ∙ fold-roll-TypeName A step (TypeName-F.Unowned t)

  pub fold-Address : (t : TypeName) → fold-TypeName A step (type.Address t) ≡ step (TypeName-F.Address (told t))
  fold-Address t = ap told (sym (rolls-Address t)) ∙ fold-roll-TypeName A step (TypeName-F.Address t)

pub ruleset opened = (out-Int, out-Named, out-Optional, out-Tuple, out-Weak, out-Unowned, out-Address, fold-Int, fold-Named, fold-Optional, fold-Tuple, fold-Weak, fold-Unowned, fold-Address)
