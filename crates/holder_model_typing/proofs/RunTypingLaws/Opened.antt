-- How types that are written out are opened and folded, and what is proved of a type by what is proved of its parts.
use Rattle.std.proofs.Common.{◌≡◌, ℕ, List, map, sym, ap, ◌∙◌, subst}
use Rattle.sil_ast.specs.declared.type_name.TypeName.{TypeName, TypeName-F, fold-TypeName, fold-roll-TypeName, ind-TypeName, map-TypeName, out-TypeName, out-roll-TypeName, roll-TypeName}
use Rattle.sil_ast.specs.declared.type_name.TypeName.TheVariants as type
use Rattle.sil_ast.specs.declared.type_name.TypeName.TheVariants.{rolls-Int, rolls-Named, rolls-Optional, rolls-Tuple, rolls-Weak, rolls-Unowned, rolls-Address}

pub out-Named : (name : List ℕ) → out-TypeName (type.Named name) ≡ TypeName-F.Named name
out-Named name = ap out-TypeName (sym (rolls-Named name)) ∙ out-roll-TypeName (TypeName-F.Named name)

pub out-Tuple : (ts : List TypeName) → out-TypeName (type.Tuple ts) ≡ TypeName-F.Tuple ts
out-Tuple ts = ap out-TypeName (sym (rolls-Tuple ts)) ∙ out-roll-TypeName (TypeName-F.Tuple ts)

pub out-Address : (t : TypeName) → out-TypeName (type.Address t) ≡ TypeName-F.Address t
out-Address t = ap out-TypeName (sym (rolls-Address t)) ∙ out-roll-TypeName (TypeName-F.Address t)

module _ (A : Type 0) (step : TypeName-F A → A) where
  abbrev told : TypeName → A
  told = fold-TypeName A step

  pub fold-Int : (n : ℕ) → fold-TypeName A step (type.Int n) ≡ step (TypeName-F.Int n)
  fold-Int n = ap told (sym (rolls-Int n)) ∙ fold-roll-TypeName A step (TypeName-F.Int n)

  pub fold-Named : (name : List ℕ) → fold-TypeName A step (type.Named name) ≡ step (TypeName-F.Named name)
  fold-Named name = ap told (sym (rolls-Named name)) ∙ fold-roll-TypeName A step (TypeName-F.Named name)

  pub fold-Optional : (t : TypeName) → fold-TypeName A step (type.Optional t) ≡ step (TypeName-F.Optional (told t))
  fold-Optional t = ap told (sym (rolls-Optional t)) ∙ fold-roll-TypeName A step (TypeName-F.Optional t)

  pub fold-Tuple : (ts : List TypeName) → fold-TypeName A step (type.Tuple ts) ≡ step (TypeName-F.Tuple (map told ts))
  fold-Tuple ts = ap told (sym (rolls-Tuple ts)) ∙ fold-roll-TypeName A step (TypeName-F.Tuple ts)

  pub fold-Weak : (t : TypeName) → fold-TypeName A step (type.Weak t) ≡ step (TypeName-F.Weak (told t))
  fold-Weak t = ap told (sym (rolls-Weak t)) ∙ fold-roll-TypeName A step (TypeName-F.Weak t)

  pub fold-Unowned : (t : TypeName) → fold-TypeName A step (type.Unowned t) ≡ step (TypeName-F.Unowned (told t))
  fold-Unowned t = ap told (sym (rolls-Unowned t)) ∙ fold-roll-TypeName A step (TypeName-F.Unowned t)

  pub fold-Address : (t : TypeName) → fold-TypeName A step (type.Address t) ≡ step (TypeName-F.Address (told t))
  fold-Address t = ap told (sym (rolls-Address t)) ∙ fold-roll-TypeName A step (TypeName-F.Address t)

-- a layer whose parts are given with what is proved of them
module _ (P : TypeName → Type 0) where
  abbrev pub Proved : Type 0
  Proved = (t : TypeName) × P t

  abbrev pub type_in : Proved → TypeName
  type_in p = p.0

  abbrev pub types_in : TypeName-F Proved → TypeName-F TypeName
  types_in = map-TypeName Proved TypeName type_in

  -- what holds of each layer whose parts it holds of, holds of all types
  pub by_layer : ((x : TypeName-F Proved) → P (roll-TypeName (types_in x))) → (t : TypeName) → P t
  by_layer on = ind-TypeName P (λ x y is. subst (λ z. P (roll-TypeName z)) is (on y))
