-- The texts of types, one equation for each form.
use Rattle.std.proofs.Common.{◌≡◌, ℕ, List, ◌++◌, codes, decimal, ap, sym, ◌∙◌}
use Rattle.sil_ast.specs.declared.type_name.TypeName.{TypeName, TypeName-F, fold-roll-TypeName}
use Rattle.sil_ast.specs.declared.type_name.TypeName.TheVariants.{Int, Named, Optional, Tuple, Weak, Unowned, Address, rolls-Int, rolls-Named}
use Rattle.sil_ast.specs.declared.type_name.TypeName.TheVariants.{rolls-Optional, rolls-Tuple, rolls-Weak, rolls-Unowned, rolls-Address}
use Rattle.sil_printer.specs.Words.{in_parens}
use Rattle.sil_printer.specs.CanonicalTypes.{type_text, type_over}
use Rattle.sil_printer.proofs.Joined.{join_by_map}

pub type_text-Int : (width : ℕ) → type_text (Int width) ≡ codes "Builtin.Int" ++ decimal width
type_text-Int width = ap type_text (sym (rolls-Int width)) ∙ fold-roll-TypeName (List ℕ) type_over (TypeName-F.Int width)

pub type_text-Named : (name : List ℕ) → type_text (Named name) ≡ name
type_text-Named name = ap type_text (sym (rolls-Named name)) ∙ fold-roll-TypeName (List ℕ) type_over (TypeName-F.Named name)

pub type_text-Optional : (t : TypeName) → type_text (Optional t) ≡ codes "Optional<" ++ type_text t ++ codes ">"
type_text-Optional t = ap type_text (sym (rolls-Optional t)) ∙ fold-roll-TypeName (List ℕ) type_over (TypeName-F.Optional t)

pub type_text-Tuple : (ts : List TypeName) → type_text (Tuple ts) ≡ in_parens type_text ts
type_text-Tuple ts =
    ap type_text (sym (rolls-Tuple ts)) ∙ fold-roll-TypeName (List ℕ) type_over (TypeName-F.Tuple ts)
    ∙ ap (λ text. codes "(" ++ text ++ codes ")") (join_by_map (λ text. text) type_text (codes ", ") ts)

pub type_text-Weak : (t : TypeName) → type_text (Weak t) ≡ codes "@sil_weak " ++ type_text t
type_text-Weak t = ap type_text (sym (rolls-Weak t)) ∙ fold-roll-TypeName (List ℕ) type_over (TypeName-F.Weak t)

pub type_text-Unowned : (t : TypeName) → type_text (Unowned t) ≡ codes "@sil_unowned " ++ type_text t
type_text-Unowned t = ap type_text (sym (rolls-Unowned t)) ∙ fold-roll-TypeName (List ℕ) type_over (TypeName-F.Unowned t)

pub type_text-Address : (t : TypeName) → type_text (Address t) ≡ codes "*" ++ type_text t
type_text-Address t = ap type_text (sym (rolls-Address t)) ∙ fold-roll-TypeName (List ℕ) type_over (TypeName-F.Address t)

pub ruleset by_form = (type_text-Int, type_text-Named, type_text-Optional, type_text-Tuple, type_text-Weak, type_text-Unowned, type_text-Address)
