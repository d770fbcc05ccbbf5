-- The place by which a class is told tells it.
use Rattle.std.proofs.Common.{◌≡◌, ℕ, zero, suc, ◌-◌, List, ◌++◌, length, refl, sym, ap, ◌∙◌, arith, Bool, true, false, Option, Some, None}
use Rattle.std.specs.Prelude.{cond, option_and_then, option_map, slice_get}
use Rattle.numbered_form.specs.Names.{Name}
use Rattle.sil_ast.specs.declared.decl.Decl.{Decl}
use Rattle.sil_ast.specs.declared.decl.Decl.TheVariants.{Class}
use Rattle.sil_ast.specs.declared.decl.Field.{Field}
use Rattle.sil_ast.specs.declared.type_name.TypeName.{TypeName, out-TypeName}
use Rattle.sil_ast.specs.declared.type_name.TypeName.TheVariants as type
use Rattle.sil_types.specs.Typing.Shapes.{name_in}
use Rattle.sil_types_declarations.specs.TypeDefinitions.Declarations.{Declarations, all_names, is_class, place_of, swift_structs}
use Rattle.sil_types_declarations.specs.TypeDefinitions.Lookups.{class_at, class_named, class_place}
use Rattle.count_machine_layouts.proofs.holder_model_typing.RunTypingLaws.Declared.{class_found, found_at}
use Rattle.count_machine_layouts.proofs.holder_model_typing.RunTypingLaws.Opened.{out-Named}
use Rattle.numbered_form.proofs.Lists.{mapped_from}

behind_swift : (swift : Bool) (decls : List Decl) (w : ℕ) (name : Name) (superclass : Option Name) (fields : List Field)
    → slice_get (swift_structs swift ++ decls) w ≡ Some (Class name superclass fields)
    → slice_get decls (w - length (swift_structs swift)) ≡ Some (Class name superclass fields)
behind_swift false decls w name superclass fields e = let same : w - 0 ≡ w = omega arith in ap (slice_get decls) same ∙ e
behind_swift true decls zero name superclass fields e = absurd (cc)
behind_swift true decls (suc zero) name superclass fields e = absurd (cc)
behind_swift true decls (suc (suc w)) name superclass fields e = let same : suc (suc w) - 2 ≡ w = omega arith in ap (slice_get decls) same ∙ e

pub class_indexed : (d : Declarations) (name : Name) (k : ℕ) → class_place d name ≡ Some k → class_at d k ≡ Some name
class_indexed d name k e = at (is_class d name) refl e
  where
    at : (b : Bool) → is_class d name ≡ b → cond b (option_map (λ p. p - length (swift_structs d.swift)) (place_of (all_names d) name)) None ≡ Some k
        → class_at d k ≡ Some name
    at false is e = absurd (cc)
    at true is e =
        let found = class_found d name is in
        let there = found_at d name (Class name found.0 found.1) found.2 in
        let it = mapped_from (λ p. p - length (swift_structs d.swift)) (place_of (all_names d) name) k e in
        let same : it.0 ≡ there.0 = cc in
        let place : k ≡ there.0 - length (swift_structs d.swift) = sym it.2 ∙ ap (λ p. p - length (swift_structs d.swift)) same in
        ap (λ p. class_named (slice_get d.decls p)) place ∙ ap class_named (behind_swift d.swift d.decls there.0 name found.0 found.1 there.2)

-- the place that is found for a type which is a class tells the class
pub class_of_type : (d : Declarations) (ty : TypeName) (name : Name) (k : ℕ) → ty ≡ type.Named name
    → Some k ≡ option_and_then (class_place d) (name_in (out-TypeName ty)) → class_at d k ≡ Some name
class_of_type d ty name k is e =
    let own : name_in (out-TypeName ty) ≡ Some name = ap (λ t. name_in (out-TypeName t)) is ∙ ap name_in (out-Named name) in
    class_indexed d name k (sym (e ∙ ap (option_and_then (class_place d)) own))
