-- The definitions of an instruction's results, by the types that its row gives where they are asked for.
use Rattle.std.proofs.Common.{◌≡◌, ℕ, ◌+◌, List, [], ◌∷◌, ◌++◌, map, length, refl, sym, ap, ap₂, ◌∙◌, arith, append_assoc, Bool, true, false, Option}
use Rattle.std.specs.Prelude.{slice_get, unwrap_or}
use Rattle.std.specs.List.{range_with_len}
use Rattle.std.proofs.lemmas.List.FromFn.{map-range_with_len_more}
use Rattle.instruction_table.specs.Forms.{result_kind_of}
use Rattle.instruction_table.specs.declared.entries.ResultKind.{ResultKind}
use Rattle.instruction_table.specs.declared.entries.ResultKind.TheVariants.{NoneResult, OwnedResult, ScopeResult, AddressResult, ForwardedResult, OperandResult}
use Rattle.sil_ast.specs.declared.inst.Inst.{Inst}
use Rattle.sil_ast.specs.declared.type_name.TypeName.{TypeName}
use Rattle.sil_types.specs.sil_types_declarations.TypeDefinitions.Declarations.{Declarations}
use Rattle.ownership_kinds_chains.specs.declared.ownership_chains.definition.Definition.{Definition}
use Rattle.sil_types.specs.Typing.RowTypes.{row_types}
use Rattle.ownership_kinds_origins.specs.Origins.{is_trivial_or_untyped, result_definition_by, result_definitions}
use Rattle.ownership_kinds_origins.specs.inner.Results.{asks_type, definition_by_types}

-- the next result
pub made_more : (d : Declarations) (i : Inst) (types : List TypeName) (k : ℕ) (kind : ResultKind) (trivial : Bool) (def : Definition) (start old new : List Definition) →
    kind ≡ result_kind_of i.op → trivial ≡ is_trivial_or_untyped d (slice_get types k) → def ≡ result_definition_by kind i trivial →
    old ≡ start ++ map (definition_by_types d i types) (range_with_len 0 k) → new ≡ old ++ def ∷ [] → new ≡ start ++ map (definition_by_types d i types) (range_with_len 0 (k + 1))
made_more d i types k kind trivial def start old new kind_is trivial_is def_is before added =
    added
    ∙ ap₂ (λ a b. a ++ b ∷ []) before (def_is ∙ ap₂ (λ a b. result_definition_by a i b) kind_is trivial_is)
    ∙ append_assoc start (map (definition_by_types d i types) (range_with_len 0 k)) (definition_by_types d i types k ∷ [])
    ∙ ap (λ r. start ++ r) (sym (map-range_with_len_more (definition_by_types d i types) 0 k k (omega arith)))

maps_same : {A B : Type 0} (f g : A → B) → ((x : A) → f x ≡ g x) → (xs : List A) → map f xs ≡ map g xs
maps_same f g e [] = refl
maps_same f g e (x ∷ xs) = ap₂ (λ y ys. y ∷ ys) (e x) (maps_same f g e xs)

-- where no type is asked for, the definition is the same for each
unasked : (kind : ResultKind) (i : Inst) (a b : Bool) → asks_type kind ≡ false → result_definition_by kind i a ≡ result_definition_by kind i b
unasked NoneResult i a b e = refl
unasked OwnedResult i a b e = absurd (cc)
unasked ScopeResult i a b e = absurd (cc)
unasked AddressResult i a b e = refl
unasked ForwardedResult i a b e = absurd (cc)
unasked OperandResult i a b e = absurd (cc)

-- the types that the row gives serve where they are asked for, and else any
pub made_serves : (d : Declarations) (i : Inst) (made : Option (List TypeName)) → (asks_type (result_kind_of i.op) ≡ true → made ≡ row_types d i) →
    map (definition_by_types d i (unwrap_or made [])) (range_with_len 0 (length i.results)) ≡ result_definitions d i
made_serves d i made given = at (asks_type (result_kind_of i.op)) refl
  where
    at : (b : Bool) → asks_type (result_kind_of i.op) ≡ b → map (definition_by_types d i (unwrap_or made [])) (range_with_len 0 (length i.results)) ≡ result_definitions d i
    at true e = ap (λ (m : Option (List TypeName)). map (definition_by_types d i (unwrap_or m [])) (range_with_len 0 (length i.results))) (given e)
    at false e = maps_same (definition_by_types d i (unwrap_or made [])) (definition_by_types d i (unwrap_or (row_types d i) [])) (λ k. unasked (result_kind_of i.op) i _ _ e)
        (range_with_len 0 (length i.results))
