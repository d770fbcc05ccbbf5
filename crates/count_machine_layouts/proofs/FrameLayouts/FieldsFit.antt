-- The types of fields can be measured, and so can elements of tuples, storage and integers.
use Rattle.std.proofs.Common.{◌≡◌, ℕ, ◌+◌, ◌≤◌, List, [], ◌∷◌, map, length, refl, sym, ap, ◌∙◌, subst, arith, Bool, true, false, Option, Some, None}
use Rattle.std.specs.Prelude.{◌&&◌, if◌then◌else◌, is_some, slice_get, sum}
use Rattle.std.specs.List.{list_all, list_any}
use Rattle.std.proofs.lemmas.Bool.{and_parts, or_parts}
use Rattle.std.proofs.lemmas.List.Sums.{sum_by-cons}
use Rattle.numbered_form.specs.Lists.{Each}
use Rattle.numbered_form.specs.Names.{Name, decl_name, field_name}
use Rattle.numbered_form.specs.inner.Types.{HasDeclTypes, HasFieldType}
use Rattle.sil_ast.specs.declared.decl.Decl.{Decl}
use Rattle.sil_ast.specs.declared.decl.Decl.TheVariants.{Class, Enum, Struct}
use Rattle.sil_ast.specs.declared.decl.Field.{Field}
use Rattle.sil_ast.specs.declared.member.Member.{Member}
use Rattle.sil_ast.specs.declared.module.Module.{Module}
use Rattle.sil_ast.specs.declared.type_name.TypeName.{TypeName, TypeName-F, fold-TypeName, out-TypeName}
use Rattle.sil_ast.specs.declared.type_name.TypeName.TheVariants as type
use Rattle.sil_rules.specs.declared.limits.TheConstants.{LEAVES}
use Rattle.sil_types.specs.Typing.Shapes.{class_field, decl_of_type, field_named, fields_of_class, fields_of_struct, found_field, is_owner, name_in}
use Rattle.sil_types.specs.Typing.Shapes.{struct_field, struct_fields}
use Rattle.sil_types_declarations.specs.TypeDefinitions.Declarations.{Declarations, all_decls, all_names, decl_of, declarations_of, place_of, swift_structs}
use Rattle.sil_types_declarations.specs.TypeDefinitions.Lookups.{FoundField, decl_fields, field_at_place, field_of, inherited_fields, own_fields}
use Rattle.sil_types_declarations.specs.TypeDefinitions.Measures.{leaves_in, leaves_of, measure_at, measure_over, measures_of}
use Rattle.sil_types_declarations.specs.declared.type_definitions.standing.Standing.TheVariants.{Unwritten}
use Rattle.sil_types_declarations.specs.TypeDefinitions.Mentions.{field_standing, in_decl, in_field, in_members, mention}
use Rattle.sil_types_declarations.specs.declared.type_definitions.measure.Measure.{Measure}
use Rattle.holder_model_typing.specs.holder_model.RunTyping.Runnable.{IsRunnable}
use Rattle.holder_model_values.specs.RunValues.inner.Laws.{has_no_address, has_no_address_over}
use Rattle.holder_model_typing.proofs.RunTypingLaws.Declared.{each_append, each_from, holds_of_found}
use Rattle.holder_model_typing.proofs.RunTypingLaws.Opened.{fold-Int, fold-Tuple, fold-Unowned, fold-Weak}
use Rattle.holder_model_typing.proofs.RunTypingLaws.Rows.Finding.{each_at, found_behind, none_in_any}
use Rattle.numbered_form.proofs.Lists.{mapped_from}
use Rattle.holder_model_typing.proofs.RunTypingLaws.Sizes.{plain_type}
use Rattle.count_machine_layouts.proofs.FrameLayouts.Fitting.{Fits, in_decls, not_overfull, overfull}

module _ (d : Declarations) where
  abbrev pub measured : TypeName-F Measure → Measure
  measured = measure_over (measure_at (all_names d) (measures_of d))

  pub leaves-Int : (w : ℕ) → leaves_of d (type.Int w) ≡ 1
  leaves-Int w = ap leaves_in (fold-Int Measure measured w)

  pub leaves-Weak : (t : TypeName) → leaves_of d (type.Weak t) ≡ 1
  leaves-Weak t = ap leaves_in (fold-Weak Measure measured t)

  pub leaves-Unowned : (t : TypeName) → leaves_of d (type.Unowned t) ≡ 1
  leaves-Unowned t = ap leaves_in (fold-Unowned Measure measured t)

  leaves_each : (ts : List TypeName) → map leaves_in (map (fold-TypeName Measure measured) ts) ≡ map (leaves_of d) ts
  leaves_each [] = refl
  leaves_each (t ∷ ts) = ap (λ ns. leaves_of d t ∷ ns) (leaves_each ts)

  pub leaves-Tuple : (ts : List TypeName) → leaves_of d (type.Tuple ts) ≡ sum (map (leaves_of d) ts)
  leaves-Tuple ts = ap leaves_in (fold-Tuple Measure measured ts) ∙ ap sum (leaves_each ts)

module _ (m : Module) where
  pub int_fits : (w : ℕ) → Fits m (type.Int w)
  int_fits w = record { plain = fold-Int Bool has_no_address_over w; within = (let e = leaves-Int (declarations_of m) w in omega arith) }

  pub weak_fits : (t : TypeName) → has_no_address t ≡ true → Fits m (type.Weak t)
  weak_fits t plain = record { plain = fold-Weak Bool has_no_address_over t ∙ plain; within = (let e = leaves-Weak (declarations_of m) t in omega arith) }

  pub unowned_fits : (t : TypeName) → has_no_address t ≡ true → Fits m (type.Unowned t)
  unowned_fits t plain = record {
    plain = fold-Unowned Bool has_no_address_over t ∙ plain;
    within = (let e = leaves-Unowned (declarations_of m) t in omega arith);
  }

  elements_fit_by : (ts : List TypeName) → list_all (λ b. b) (map has_no_address ts) ≡ true
      → sum (map (leaves_of (declarations_of m)) ts) ≤ LEAVES → Each (Fits m) ts
  elements_fit_by [] e within = tt
  elements_fit_by (t ∷ ts) e within =
      let both = and_parts (has_no_address t) (list_all (λ b. b) (map has_no_address ts)) e in
      let all = sum_by-cons (λ n. n) (leaves_of (declarations_of m) t) (map (leaves_of (declarations_of m)) ts) in
      (record { plain = both.0; within = omega arith }, elements_fit_by ts both.1 (omega arith))

  pub elements_fit : (ts : List TypeName) → Fits m (type.Tuple ts) → Each (Fits m) ts
  elements_fit ts fits =
      elements_fit_by ts (sym (fold-Tuple Bool has_no_address_over ts) ∙ fits.plain)
      (let e = leaves-Tuple (declarations_of m) ts in let within = fits.within in omega arith)

  -- fields

  abbrev pub FieldFits : Field → Type 0
  FieldFits f = Fits m f.ty

  abbrev DeclFits : Decl → Type 0
  DeclFits x = Each FieldFits (decl_fields (Some x))

  all_fit : (fields : List Field) → Each HasFieldType fields → list_any (overfull m) (map in_field fields) ≡ false → Each FieldFits fields
  all_fit [] h e = tt
  all_fit (f ∷ fields) h e =
      let both = or_parts (overfull m (in_field f)) (list_any (overfull m) (map in_field fields)) e in
      (record { plain = plain_type f.ty h.0.written; within = not_overfull m (field_standing f.storage) f.ty both.0 }, all_fit fields h.1 both.1)

  decl_fits : (x : Decl) → HasDeclTypes x → list_any (overfull m) (in_members x) ≡ false → DeclFits x
  decl_fits (Struct name fields) h e = all_fit fields h e
  decl_fits (Enum name cases) h e = tt
  decl_fits (Class name superclass fields) h e = all_fit fields h e

  swift_fit : (swift : Bool) → Each DeclFits (swift_structs swift)
  swift_fit true = ((int_fits 64, tt), ((int_fits 1, tt), tt))
  swift_fit false = tt

  module _ (r : IsRunnable m) where
    decls_fit : Each DeclFits (all_decls (declarations_of m))
    decls_fit =
        each_append DeclFits (swift_structs m.imports.swift) m.decls (swift_fit m.imports.swift)
        (each_from DeclFits m.decls (λ k x is. decl_fits x (each_at HasDeclTypes m.decls k x r.numbered.types.declarations is)
        (or_parts (overfull m (mention Unwritten (type.Named (decl_name x)))) (list_any (overfull m) (in_members x))
        (none_in_any (overfull m) in_decl m.decls k x (in_decls m r) is)).1))

    found_fits : (name : Name) (x : Option Decl) → decl_of (declarations_of m) name ≡ x → Each FieldFits (decl_fields x)
    found_fits name None e = tt
    found_fits name (Some x) e = holds_of_found (declarations_of m) DeclFits decls_fit name x e

    pub own_fit : (name : Name) → Each FieldFits (own_fields (declarations_of m) name)
    own_fit name = found_fits name (decl_of (declarations_of m) name) refl

    -- the field that a member names
    pub named_fits : (named : Member) (f : Field) → field_named (declarations_of m) named ≡ Some f → FieldFits f
    named_fits named f e =
        let d = declarations_of m in
        let it = mapped_from found_field (field_of d named.owner named.name) f e in
        at (length (inherited_fields d named.owner)) (own_fields d named.owner) (own_fit named.owner)
        (place_of (map field_name (own_fields d named.owner)) named.name) it.0 it.1 it.2
      where
        at : (before : ℕ) (fields : List Field) → Each FieldFits fields → (place : Option ℕ) (found : FoundField)
            → field_at_place before fields place ≡ Some found → found.field ≡ f → FieldFits f
        at before fields h None found e same = absurd (cc)
        at before fields h (Some p) found e same =
            let it = mapped_from (λ (x : Field). record { place = before + p; field = x }) (slice_get fields p) found e in
            let own : it.0 ≡ f = ap (λ (x : FoundField). x.field) it.2 ∙ same in
            subst FieldFits own (each_at FieldFits fields p it.0 h it.1)

    pub fields_fit : (t : TypeName) (fields : List Field) → fields_of_struct (declarations_of m) t ≡ Some fields → Each FieldFits fields
    fields_fit t fields e =
        let d = declarations_of m in
        let found = found_behind struct_fields (decl_of_type d t) fields e in
        let named = found_behind (decl_of d) (name_in (out-TypeName t)) found.0 found.1 in
        at found.0 (found_fits named.0 (Some found.0) named.2) found.2
      where
        at : (x : Decl) → Each FieldFits (decl_fields (Some x)) → struct_fields x ≡ Some fields → Each FieldFits fields
        at (Struct name own) h same = let is : own ≡ fields = cc in subst (Each FieldFits) is h
        at (Enum name cases) h same = absurd (cc)
        at (Class name superclass own) h same = absurd (cc)

    pub struct_field_fits : (named : Member) (t : TypeName) (f : Field) → struct_field (declarations_of m) named t ≡ Some f → FieldFits f
    struct_field_fits named t f e = at (is_owner named t && is_some (fields_of_struct (declarations_of m) t)) e
      where
        at : (b : Bool) → (if b then field_named (declarations_of m) named else None) ≡ Some f → FieldFits f
        at true e = named_fits named f e
        at false e = absurd (cc)

    pub class_field_fits : (named : Member) (t : TypeName) (f : Field) → class_field (declarations_of m) named t ≡ Some f → FieldFits f
    class_field_fits named t f e = at (is_owner named t && is_some (fields_of_class (declarations_of m) t)) e
      where
        at : (b : Bool) → (if b then field_named (declarations_of m) named else None) ≡ Some f → FieldFits f
        at true e = named_fits named f e
        at false e = absurd (cc)
