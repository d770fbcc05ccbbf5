-- An Owned value is no borrow.
use Rattle.std.proofs.Common.{◌≡◌, ℕ, zero, suc, List, [], length, replicate, refl, sym, ap, ◌∙◌, subst, Bool, true, false, cond, Option, Some, None}
use Rattle.std.specs.Prelude.{nat_lt, option_map, slice_get, unwrap_or, ⊤}
use Rattle.std.specs.List.{list_all, range_with_len}
use Rattle.std.proofs.lemmas.List.{length-map, length-replicate}
use Rattle.std.proofs.lemmas.List.FromFn.{length-map-range_with_len}
use Rattle.std.proofs.lemmas.Option.{slice_get-map}
use Rattle.argument_conventions.specs.Arguments.{Told, arguments_of}
use Rattle.argument_conventions.specs.Rows.{address_row}
use Rattle.argument_conventions.specs.declared.row.AddressRow.{AddressRow}
use Rattle.instruction_table.specs.Forms.{result_kind_of}
use Rattle.instruction_table.specs.declared.entries.ResultKind.{ResultKind}
use Rattle.instruction_table.specs.declared.entries.ResultKind.TheVariants.{AddressResult, ForwardedResult, NoneResult, OperandResult, OwnedResult, ScopeResult}
use Rattle.instruction_table.specs.declared.op.Op.{Op}
use Rattle.instruction_table.specs.declared.op.Op.TheVariants as op
use Rattle.sil_verifier_trails.specs.memory_rules_accesses.Operations.{access_kind_of}
use Rattle.sil_verifier_trails.specs.memory_rules_accesses.Sources.{arg_sources, argument_source_or, element_place, field_source, handed_source, is_trivial_member, member_place}
use Rattle.sil_verifier_trails.specs.memory_rules_accesses.Sources.{object_source, part_source, result_source, result_sources, slot_source, source_by, sources_of, upcast_source}
use Rattle.sil_verifier_trails.specs.memory_rules_accesses.declared.columns.AccessKind.{AccessKind}
use Rattle.sil_verifier_trails.specs.memory_rules_accesses.declared.columns.AccessKind.TheVariants as access
use Rattle.sil_verifier_trails.specs.memory_rules_accesses.declared.source.Source.{Source}
use Rattle.sil_verifier_trails.specs.memory_rules_accesses.declared.source.Source.TheVariants as source
use Rattle.sil_verifier_trails.specs.memory_rules_parts.Parts.{is_scope, is_scope_source}
use Rattle.ownership_kinds_chains.specs.OwnershipChains.Chains.{operands_at}
use Rattle.ownership_kinds_chains.specs.OwnershipChains.Facts.{facts_with, is_known, is_owned, known_or, origin_at, told_by}
use Rattle.ownership_kinds_chains.specs.OwnershipChains.Steps.{told_in}
use Rattle.ownership_kinds_chains.specs.declared.ownership_chains.definition.Definition.{Definition}
use Rattle.ownership_kinds_chains.specs.declared.ownership_chains.definition.Origin.{Origin}
use Rattle.ownership_kinds_chains.specs.declared.ownership_chains.definition.Origin.TheVariants as origin
use Rattle.ownership_kinds_chains.specs.declared.ownership_chains.facts.Facts.{Facts}
use Rattle.copy_pairing_model.specs.ownership_kinds_origins.Facts.{facts_by, facts_in}
use Rattle.copy_pairing_model.specs.ownership_kinds_origins.Origins.{arg_definition, arg_definitions, definitions_of, is_trivial_or_untyped, result_definition, result_definitions, result_origin}
use Rattle.copy_pairing_model.specs.ownership_kinds_origins.Switched.{switch_to}
use Rattle.sil_ast.specs.declared.function.BlockArg.{BlockArg}
use Rattle.sil_ast.specs.declared.function.Function.{Function}
use Rattle.sil_ast.specs.declared.inst.Inst.{Inst}
use Rattle.sil_ast.specs.declared.place.ValueId.{ValueId}
use Rattle.sil_ast.specs.declared.type_name.TypeName.{TypeName}
use Rattle.sil_types.specs.Typing.RowTypes.{made_types}
use Rattle.sil_types.specs.Typing.Shapes.{is_trivial_object}
use Rattle.sil_types_declarations.specs.TypeDefinitions.Declarations.{Declarations}
use Rattle.sil_types_declarations.specs.declared.type_definitions.kind.Kind.TheVariants as kind
use Rattle.numbered_form.specs.ValueTables.FirstValue.{first_value}
use Rattle.copy_pairing_acceptance.proofs.MovedMemory.LevelRows.{Level, each_copy, each_map, level_at, level_left, level_right, level_rows}

-- ---- sources of borrows

abbrev lends_by : AccessKind → Bool
lends_by access.NoAccess = false
lends_by access.AllocatesSlot = false
lends_by access.AllocatesObject = false
lends_by access.DeallocatesSlot = false
lends_by access.LendsValue = true
lends_by access.LendsLocation = true
lends_by access.Upcasts = false
lends_by access.NamesField = false
lends_by access.NamesMember = false
lends_by access.NamesElement = false
lends_by access.Loads = false
lends_by access.Stores = false
lends_by access.Destroys = false
lends_by access.Passes = false

abbrev IsNoScope : Source → Type 0
IsNoScope s = is_scope_source s ≡ false

module _ (d : Declarations) where
  no_slot : (o : Option TypeName) → IsNoScope (slot_source d o)
  no_slot None = refl
  no_slot (Some t) = refl

  no_object : (o : Option TypeName) → IsNoScope (object_source d o)
  no_object None = refl
  no_object (Some t) = refl

  no_upcast : (o : Option ValueId) → IsNoScope (upcast_source o)
  no_upcast None = refl
  no_upcast (Some v) = refl

  no_field : (o : Option ValueId) (k : Option ℕ) (trivial : Bool) → IsNoScope (field_source o k trivial)
  no_field None k trivial = refl
  no_field (Some v) None trivial = refl
  no_field (Some v) (Some k) trivial = refl

  no_part : (o : Option ValueId) (k : Option ℕ) → IsNoScope (part_source o k)
  no_part None k = refl
  no_part (Some v) None = refl
  no_part (Some v) (Some k) = refl

  -- what lends nothing is no scope
  no_scope : (k : AccessKind) (i : Inst) → lends_by k ≡ false → IsNoScope (source_by k d i)
  no_scope access.NoAccess i e = refl
  no_scope access.AllocatesSlot i e = no_slot i.ty
  no_scope access.AllocatesObject i e = no_object i.ty
  no_scope access.DeallocatesSlot i e = refl
  no_scope access.LendsValue i e = absurd (let wrong : true ≡ false = e in cc)
  no_scope access.LendsLocation i e = absurd (let wrong : true ≡ false = e in cc)
  no_scope access.Upcasts i e = no_upcast (first_value i)
  no_scope access.NamesField i e = no_field (first_value i) (member_place d i.member) (is_trivial_member d i.member)
  no_scope access.NamesMember i e = no_part (first_value i) (member_place d i.member)
  no_scope access.NamesElement i e = no_part (first_value i) (element_place i.number)
  no_scope access.Loads i e = refl
  no_scope access.Stores i e = refl
  no_scope access.Destroys i e = refl
  no_scope access.Passes i e = refl

  no_handed : (trivial : Bool) (o : Option AddressRow) → IsNoScope (handed_source trivial o)
  no_handed trivial None = refl
  no_handed trivial (Some row) = refl

  no_told : (o : Option Told) → IsNoScope (argument_source_or d o)
  no_told None = refl
  no_told (Some a) = no_handed (is_trivial_object d a.ty) (address_row a.convention)

-- what lends gives a scope
scope_rows : (o : Op) → lends_by (access_kind_of o) ≡ true → result_kind_of o ≡ ScopeResult
scope_rows op.BeginBorrow e = refl
scope_rows op.LoadBorrow e = refl
scope_rows _ e = absurd (cc)

-- ---- definitions of borrows

-- by this origin no value is Owned
abbrev IsNeverOwned : Origin → Type 0
IsNeverOwned origin.Owned = ⊥
IsNeverOwned origin.Lender = ⊤
IsNeverOwned origin.Plain = ⊤
IsNeverOwned origin.Forward = ⊥
IsNeverOwned origin.Same = ⊥
IsNeverOwned origin.Lent = ⊤
IsNeverOwned origin.Address = ⊤

borrow_never : (k : ResultKind) (trivial : Bool) → k ≡ ScopeResult → IsNeverOwned (result_origin k trivial)
borrow_never NoneResult trivial e = tt
borrow_never OwnedResult trivial e = absurd (cc)
borrow_never ScopeResult true e = tt
borrow_never ScopeResult false e = tt
borrow_never AddressResult trivial e = tt
borrow_never ForwardedResult trivial e = absurd (cc)
borrow_never OperandResult trivial e = absurd (cc)

told_never : (count : ℕ) (v : ValueId) (at : ValueId → Facts) (ops : List ValueId) (o : Origin) → IsNeverOwned o → is_owned (told_by count v at ops o).kind ≡ false
told_never count v at ops origin.Owned h = absurd h
told_never count v at ops origin.Lender h = refl
told_never count v at ops origin.Plain h = refl
told_never count v at ops origin.Forward h = absurd h
told_never count v at ops origin.Same h = absurd h
told_never count v at ops origin.Lent h = refl
told_never count v at ops origin.Address h = refl

abbrev owned_in : Option Facts → Bool
owned_in o = is_owned (unwrap_or o (facts_with kind.Plain [])).kind

module _ (defs : List Definition) (v : ValueId) (never : IsNeverOwned (origin_at defs v)) where
  steps_never : (n : ℕ) → owned_in (told_in defs n v) ≡ false
  steps_never zero = refl
  steps_never (suc n) = at (list_all (is_known (told_in defs n)) (operands_at defs v))
    where
      at : (b : Bool) → owned_in (cond b (Some (told_by (length defs) v (known_or (told_in defs n)) (operands_at defs v) (origin_at defs v))) None) ≡ false
      at true = told_never (length defs) v (known_or (told_in defs n)) (operands_at defs v) (origin_at defs v) never
      at false = refl

  facts_never : owned_in (facts_by defs v) ≡ false
  facts_never = at (nat_lt v.0 (length defs))
    where
      at : (b : Bool) → owned_in (cond b (told_in defs (length defs) v) None) ≡ false
      at true = steps_never (length defs)
      at false = refl

-- ---- the rows of a value

-- a scope is never Owned
abbrev IsFitting : Source → Definition → Type 0
IsFitting s x = is_scope_source s ≡ true → IsNeverOwned x.origin

no_scope_fits : (s : Source) → IsNoScope s → (x : Definition) → IsFitting s x
no_scope_fits s none x e = absurd (let wrong : false ≡ true = sym none ∙ e in cc)

abbrev Fits : Source → Type 0
Fits s = (x : Definition) → IsFitting s x

abbrev IsFit : Definition → Type 0
IsFit x = (s : Source) → IsFitting s x

module _ (d : Declarations) (f : Function) where
  args_level : (n : ℕ) (xs : List BlockArg) → Level IsFitting (arg_sources d f.signature n xs) (arg_definitions d f n xs)
  args_level zero xs =
      level_left IsFitting (arg_sources d f.signature 0 xs) (arg_definitions d f 0 xs)
      (length-map-range_with_len (λ k. argument_source_or d (slice_get (arguments_of f.signature) k)) 0 (length xs) ∙ sym (length-map xs (arg_definition d true (switch_to f 0))))
      (each_map Fits (λ k. argument_source_or d (slice_get (arguments_of f.signature) k))
      (λ k. no_scope_fits _ (no_told d (slice_get (arguments_of f.signature) k))) (range_with_len 0 (length xs)))
  args_level (suc n) xs =
      level_left IsFitting (replicate (length xs) source.Other) (arg_definitions d f (suc n) xs)
      (length-replicate (length xs) source.Other ∙ sym (length-map xs (arg_definition d false (switch_to f (suc n)))))
      (each_copy Fits (length xs) source.Other (no_scope_fits source.Other refl))

  results_level : (i : Inst) → Level IsFitting (result_sources d i) (result_definitions d i)
  results_level i = at (lends_by (access_kind_of i.op)) refl
    where
      same_length : length (result_sources d i) ≡ length (result_definitions d i)
      same_length = length-replicate (length i.results) (result_source d i) ∙ sym (length-map-range_with_len (result_definition d i) 0 (length i.results))

      at : (b : Bool) → lends_by (access_kind_of i.op) ≡ b → Level IsFitting (result_sources d i) (result_definitions d i)
      at true e =
          level_right IsFitting (result_sources d i) (result_definitions d i) same_length
          (each_map IsFit (result_definition d i)
          (λ k s scope. borrow_never (result_kind_of i.op) (is_trivial_or_untyped d (slice_get (made_types d i) k)) (scope_rows i.op e)) (range_with_len 0 (length i.results)))
      at false e =
          level_left IsFitting (result_sources d i) (result_definitions d i) same_length
          (each_copy Fits (length i.results) (result_source d i) (no_scope_fits (result_source d i) (no_scope d (access_kind_of i.op) i e)))

  pub owned_unscoped : (v : ValueId) → is_owned (known_or (facts_in d f) v).kind ≡ true → is_scope (sources_of d f) v ≡ false
  owned_unscoped v owned = at (slice_get (sources_of d f) v.0) refl
    where
      rows : Level IsFitting (sources_of d f) (definitions_of d f)
      rows = level_rows IsFitting (arg_sources d f.signature) (arg_definitions d f) (result_sources d) (result_definitions d) args_level results_level 0 f.blocks

      by : (s : Source) → slice_get (sources_of d f) v.0 ≡ Some s → (b : Bool) → is_scope_source s ≡ b → b ≡ false
      by s e false is = refl
      by s e true is =
          let row = level_at IsFitting (sources_of d f) (definitions_of d f) v.0 s rows e in
          let same : origin_at (definitions_of d f) v ≡ row.0.origin =
          ap (λ x. unwrap_or x origin.Plain) (slice_get-map (λ (x : Definition). x.origin) (definitions_of d f) v.0 ∙ ap (option_map (λ (x : Definition). x.origin)) row.1) in
          let never : IsNeverOwned (origin_at (definitions_of d f) v) = subst IsNeverOwned (sym same) (row.2 is) in
          absurd (let wrong : false ≡ true = sym (facts_never (definitions_of d f) v never) ∙ owned in cc)

      at : (o : Option Source) → slice_get (sources_of d f) v.0 ≡ o → is_scope (sources_of d f) v ≡ false
      at None e = ap (λ o. is_scope_source (unwrap_or o source.Other)) e
      at (Some s) e = ap (λ o. is_scope_source (unwrap_or o source.Other)) e ∙ by s e (is_scope_source s) refl
