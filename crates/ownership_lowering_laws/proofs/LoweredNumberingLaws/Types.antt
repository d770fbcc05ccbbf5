-- The types of a lowered module are declared and within the limits: it mentions no type but those of the module and what stands behind their addresses.
use Rattle.std.proofs.Common.{◌≡◌, ℕ, List, [], ◌∷◌, ◌++◌, map, refl, sym, ap, ◌∙◌, Bool, true, false, not, Some}
use Rattle.std.specs.Prelude.{◌||◌, All, nat_le, slice_get}
use Rattle.std.specs.List.{flat_map, list_any}
use Rattle.std.proofs.lemmas.Bool.{or_from, or_parts}
use Rattle.std.proofs.lemmas.List.Elements.{All-append, All-map}
use Rattle.sil_ast.specs.declared.decl.Field.{Field}
use Rattle.sil_ast.specs.declared.function.Function.{Function}
use Rattle.sil_ast.specs.declared.member.Member.{Member}
use Rattle.sil_ast.specs.declared.module.Module.{Module}
use Rattle.sil_ast.specs.declared.type_name.TypeName.{TypeName, TypeName-F, out-TypeName}
use Rattle.sil_ast.specs.declared.type_name.TypeName.TheVariants as type
use Rattle.ownership_lowering_model.specs.Extracts.{member_of}
use Rattle.ownership_lowering_model.specs.LoweredModules.{lowered, lowered_function}
use Rattle.numbered_form.specs.Lists.{Each}
use Rattle.numbered_form.specs.Names.{IsMemberSpelled}
use Rattle.numbered_form.specs.inner.NumberedForm.{IsNumbered}
use Rattle.numbered_form.specs.inner.Types.{IsPlacedType}
use Rattle.holder_model_typing.specs.sil_types.Typing.Shapes.{is_object, is_object_layer, target}
use Rattle.holder_model_typing.specs.sil_types.Typing.Typed.{Typed}
use Rattle.sil_types_declarations.specs.TypeDefinitions.Declarations.{Declarations, declarations_of}
use Rattle.sil_types_declarations.specs.TypeDefinitions.Measures.{measure_at, measure_of, measure_over, measures_of}
use Rattle.sil_types_declarations.specs.TypeDefinitions.Declarations.{all_names}
use Rattle.sil_types_declarations.specs.TypeDefinitions.Mentions.{Item, Mention, decl, function, function_members, in_decl, in_function, mention, mentions_of, vtable}
use Rattle.sil_types_declarations.specs.TypeDefinitions.Rules.{Declared, InLimits, IsWellNamed, has_storage, has_too_many_leaves, has_unknown_owner, is_declared, is_declared_over}
use Rattle.sil_types_declarations.specs.TypeDefinitions.Rules.{is_misplaced, is_misplaced_value}
use Rattle.sil_types_declarations.specs.TypeDefinitions.Rules.{is_misplaced_value_layer, is_no_member, is_too_deep, is_too_low, is_unknown}
use Rattle.sil_types_declarations.specs.declared.type_definitions.measure.Measure.{Measure}
use Rattle.sil_types_declarations.specs.declared.type_definitions.standing.Standing.TheVariants.{Value}
use Rattle.ownership_lowering_laws.specs.LoweringLaws.inner.Lowerable.{HasNoRings}
use Rattle.numbered_form.proofs.Lists.{each_both, each_weaker}
use Rattle.ownership_lowering_laws.proofs.LoweringLaws.Structs.{IsStruct}
use Rattle.holder_model_typing.proofs.ownership_kinds_origins.Ranges.{all_from_each}
use Rattle.holder_model_typing.proofs.RunTypingLaws.Declared.{each_append}
use Rattle.numbered_form.proofs.ValueTables.Rows.{each_flat}
use Rattle.holder_model_typing.proofs.RunTypingLaws.Opened.{fold-Address}
use Rattle.holder_model_typing.proofs.RunTypingLaws.Rows.Finding.{all_of_both, none_in_any, none_in_both}
use Rattle.holder_model_typing.proofs.RunTypingLaws.Rows.Mentioned.{function_named}
use Rattle.holder_model_typing.proofs.RunTypingLaws.Rows.Storage.{behind_address, object_in_storage}
use Rattle.ownership_lowering_laws.specs.LoweredNumberingLaws.inner.Laws.{AreTypesKept, DeclaresTheSame}
use Rattle.ownership_lowering_laws.proofs.LoweredNumberingLaws.Addresses.{address_is}
use Rattle.ownership_lowering_laws.proofs.LoweredNumberingLaws.Functions.{body_members, body_mentions}
use Rattle.ownership_lowering_laws.proofs.LoweredNumberingLaws.Members.{IsNamed, members_found, members_spelled}
use Rattle.ownership_lowering_laws.proofs.LoweredNumberingLaws.Modules.{by_form, of_functions}

pub declares_the_same : DeclaresTheSame
declares_the_same m = refl

-- ---- tests that fail at each element

each_fails : {A : Type 0} (test : A → Bool) (xs : List A) → list_any test xs ≡ false → Each (λ x. test x ≡ false) xs
each_fails test [] h = tt
each_fails test (x ∷ xs) h = let both = or_parts (test x) (list_any test xs) h in (both.0, each_fails test xs both.1)

none_passes : {A : Type 0} (test : A → Bool) (xs : List A) → Each (λ x. test x ≡ false) xs → list_any test xs ≡ false
none_passes test [] h = refl
none_passes test (x ∷ xs) h = or_from (test x) (list_any test xs) h.0 (none_passes test xs h.1)

-- ---- a type that breaks no rule and is within the limits

pub record IsFine (d : Declarations) (t : Mention) : Type 0 where
  pub known : is_unknown d t ≡ false
  pub placed : is_misplaced d t ≡ false
  pub depth : is_too_deep d t ≡ false
  pub leaves : has_too_many_leaves d t ≡ false

module _ (d : Declarations) where
  all_fine : (xs : List Mention) → list_any (is_unknown d) xs ≡ false → list_any (is_misplaced d) xs ≡ false → list_any (is_too_deep d) xs ≡ false
      → list_any (has_too_many_leaves d) xs ≡ false → Each (IsFine d) xs
  all_fine [] a b c e = tt
  all_fine (x ∷ xs) a b c e =
      let p = or_parts (is_unknown d x) (list_any (is_unknown d) xs) a in
      let q = or_parts (is_misplaced d x) (list_any (is_misplaced d) xs) b in
      let r = or_parts (is_too_deep d x) (list_any (is_too_deep d) xs) c in
      let s = or_parts (has_too_many_leaves d x) (list_any (has_too_many_leaves d) xs) e in
      (record { known = p.0; placed = q.0; depth = r.0; leaves = s.0 }, all_fine xs p.1 q.1 r.1 s.1)

  -- what stands behind an address has the address's measure
  same_measure : (u : TypeName) → measure_of d (type.Address u) ≡ measure_of d u
  same_measure u = fold-Address Measure (measure_over (measure_at (all_names d) (measures_of d))) u

  value_placed : (u : TypeName) → is_object u ≡ true → has_storage u ≡ false → is_misplaced_value d u ≡ false
  value_placed u object none = at (out-TypeName u) object
    where
      at : (layer : TypeName-F TypeName) → is_object_layer layer ≡ true → is_misplaced_value_layer d u layer ≡ false
      at (TypeName-F.Address inner) e = absurd (cc)
      at _ e = none

  -- an object behind an address is fine where the address is
  pub fine_behind : (t u : TypeName) → target t ≡ Some u → is_object u ≡ true → IsFine d (mention Value t) → IsFine d (mention Value u)
  fine_behind t u e object h =
      let same : t ≡ type.Address u = address_is t u e in
      let measure : measure_of d t ≡ measure_of d u = ap (measure_of d) same ∙ same_measure u in
      record {
        known = ap not (sym (ap (is_declared d) same ∙ fold-Address Bool (is_declared_over d) u)) ∙ h.known;
        placed = value_placed u object (object_in_storage d u object (behind_address d t u e h.placed));
        depth = ap (λ x. not (nat_le x.depth 32)) (sym measure) ∙ h.depth;
        leaves = ap (λ x. not (nat_le x.leaves 64)) (sym measure) ∙ h.leaves;
      }

-- ---- functions

module _ (m : Module) (numbered : IsNumbered m) (typed : Typed m) (rings : HasNoRings m) (declared : Declared m) (limits : InLimits m) where
  abbrev d : Declarations
  d = declarations_of m

  abbrev Deep : List Mention → Bool
  Deep xs = list_any (is_too_deep d) xs

  abbrev Large : List Mention → Bool
  Large xs = list_any (has_too_many_leaves d) xs

  deep_parts : (Deep (mentions_of m) ≡ false) × (list_any (is_too_low d) m.decls ≡ false)
  deep_parts = or_parts (Deep (mentions_of m)) (list_any (is_too_low d) m.decls) limits.depth

  deep_inside : (Deep (flat_map in_decl m.decls) ≡ false) × (Deep (flat_map in_function m.functions) ≡ false)
  deep_inside = none_in_both (is_too_deep d) (flat_map in_decl m.decls) (flat_map in_function m.functions) deep_parts.0

  large_inside : (Large (flat_map in_decl m.decls) ≡ false) × (Large (flat_map in_function m.functions) ≡ false)
  large_inside = none_in_both (has_too_many_leaves d) (flat_map in_decl m.decls) (flat_map in_function m.functions) limits.leaves

  module _ (n : ℕ) (f : Function) (there : slice_get m.functions n ≡ Some f) where
    well : IsWellNamed d (function f)
    well = function_named m declared n f there

    abbrev unknown : Bool
    unknown = list_any (is_unknown d) (in_function f)

    abbrev unowned : Bool
    unowned = list_any (has_unknown_owner d) (function_members f)

    known : (unknown ≡ false) × (unowned ≡ false)
    known = or_parts unknown unowned (or_parts (unknown || unowned) false well.known).0

    members_named : Each (IsNamed d) (function_members f)
    members_named =
        each_both (λ x. has_unknown_owner d x ≡ false) (λ x. is_no_member d x ≡ false) (IsNamed d) (λ x a b. (a, b)) (function_members f)
        (each_fails (has_unknown_owner d) (function_members f) known.1)
        (each_fails (is_no_member d) (function_members f) (or_parts (list_any (is_no_member d) (function_members f)) false well.members).0)

    fine : Each (IsFine d) (in_function f)
    fine =
        all_fine d (in_function f) known.0 well.storage (none_in_any (is_too_deep d) in_function m.functions n f deep_inside.1 there)
        (none_in_any (has_too_many_leaves d) in_function m.functions n f large_inside.1 there)

    members : (t : TypeName) (fields : List Field) (struct : IsStruct d t fields) → IsPlacedType t
        → Each (λ x. IsMemberSpelled x × IsNamed d x) (map (member_of struct.name) fields)
    members t fields struct placed =
        each_both IsMemberSpelled (IsNamed d) (λ x. IsMemberSpelled x × IsNamed d x) (λ x a b. (a, b)) (map (member_of struct.name) fields)
        (members_spelled m numbered t fields struct placed) (members_found m numbered t fields struct)

    pub lowered_fine : Each (IsFine d) (in_function (lowered_function d f))
    lowered_fine =
        by_form d f (λ g. Each (IsFine d) (in_function g))
        (λ e. body_mentions m n f numbered typed rings there (IsFine d) (IsNamed d) fine members_named (fine_behind d) members) (λ e. fine)

    pub lowered_named : Each (IsNamed d) (function_members (lowered_function d f))
    lowered_named =
        by_form d f (λ g. Each (IsNamed d) (function_members g))
        (λ e. body_members m n f numbered typed rings there (IsFine d) (IsNamed d) fine members_named (fine_behind d) members)
        (λ e. members_named)

    pub lowered_well : IsWellNamed d (function (lowered_function d f))
    lowered_well =
        let g : Function = lowered_function d f in
        let xs : List Mention = in_function g in
        let ms : List Member = function_members g in
        record {
          known = or_from (list_any (is_unknown d) xs || list_any (has_unknown_owner d) ms) false
              (or_from (list_any (is_unknown d) xs) (list_any (has_unknown_owner d) ms)
              (none_passes (is_unknown d) xs (each_weaker (IsFine d) (λ x. is_unknown d x ≡ false) (λ x h. h.known) xs lowered_fine))
              (none_passes (has_unknown_owner d) ms (each_weaker (IsNamed d) (λ x. has_unknown_owner d x ≡ false) (λ x h. h.0) ms lowered_named))) refl;
          members = or_from (list_any (is_no_member d) ms) false
              (none_passes (is_no_member d) ms (each_weaker (IsNamed d) (λ x. is_no_member d x ≡ false) (λ x h. h.1) ms lowered_named)) refl;
          storage = none_passes (is_misplaced d) xs (each_weaker (IsFine d) (λ x. is_misplaced d x ≡ false) (λ x h. h.placed) xs lowered_fine);
        }

  -- ---- the module

  abbrev Items : Type 0
  Items = All (IsWellNamed d) (map decl m.decls ++ map function (lowered m).functions ++ map vtable m.vtables)

  items : Items
  items =
      let P : Item → Type 0 = IsWellNamed d in
      let front = all_of_both P (map decl m.decls ++ map function m.functions) (map vtable m.vtables) declared.items in
      let decls = (all_of_both P (map decl m.decls) (map function m.functions) front.0).0 in
      All-append P (map decl m.decls ++ map function (lowered m).functions) (map vtable m.vtables)
      (All-append P (map decl m.decls) (map function (lowered m).functions) decls
      (All-map P function (lowered m).functions (all_from_each (λ g. P (function g)) (lowered m).functions
      (of_functions m numbered typed rings (λ g. P (function g)) lowered_well)))) front.1

  fine_inside : Each (IsFine d) (flat_map in_function (lowered m).functions)
  fine_inside =
      each_flat in_function (λ g. Each (IsFine d) (in_function g)) (IsFine d) (λ g h. h) (lowered m).functions
      (of_functions m numbered typed rings (λ g. Each (IsFine d) (in_function g)) lowered_fine)

  in_limits : InLimits (lowered m)
  in_limits =
      let xs : List Mention = flat_map in_function (lowered m).functions in
      record {
        depth = or_from (list_any (is_too_deep d) (flat_map in_decl m.decls ++ xs)) (list_any (is_too_low d) m.decls)
            (none_passes (is_too_deep d) (flat_map in_decl m.decls ++ xs)
            (each_append (λ x. is_too_deep d x ≡ false) (flat_map in_decl m.decls) xs (each_fails (is_too_deep d) (flat_map in_decl m.decls) deep_inside.0)
            (each_weaker (IsFine d) (λ x. is_too_deep d x ≡ false) (λ x h. h.depth) xs fine_inside))) deep_parts.1;
        leaves = none_passes (has_too_many_leaves d) (flat_map in_decl m.decls ++ xs)
            (each_append (λ x. has_too_many_leaves d x ≡ false) (flat_map in_decl m.decls) xs
            (each_fails (has_too_many_leaves d) (flat_map in_decl m.decls) large_inside.0)
            (each_weaker (IsFine d) (λ x. has_too_many_leaves d x ≡ false) (λ x h. h.leaves) xs fine_inside));
      }

pub types_are_kept : AreTypesKept
types_are_kept m numbered typed rings declared limits = (
  record { items = items m numbered typed rings declared limits; finite = declared.finite },
  in_limits m numbered typed rings declared limits,
)
