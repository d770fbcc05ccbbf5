-- The facts of values: each value has those that its origin tells by the facts of its operands, and a run is told just these.
use Rattle.std.proofs.Common.{◌≡◌, ℕ, ◌<◌, ◌≤◌, List, [], length, sym, ap, ◌∙◌, subst, arith, Option, Some, None, ◌⊎◌, inl, inr}
use Rattle.std.specs.Prelude.{Contains, option_map, slice_get, unwrap_or, if◌then◌else◌}
use Rattle.std.proofs.lemmas.Bool.{cases_lt, le-ltb, lt-ltb}
use Rattle.std.proofs.lemmas.List.Elements.{All-contains}
use Rattle.std.proofs.lemmas.List.FromFn.{get_or-map-range_with_len, length-map-range_with_len}
use Rattle.std.proofs.lemmas.Option.{slice_get-map, slice_get_past, unwrap_or-slice_get}
use Rattle.sil_ast.specs.declared.function.Function.{Function}
use Rattle.sil_ast.specs.declared.module.Module.{Module}
use Rattle.sil_ast.specs.declared.place.ValueId.{ValueId}
use Rattle.holder_model_typing.specs.holder_model.Calling.{value_count}
use Rattle.holder_model_typing.specs.holder_model.ModuleFacts.{facts_of, facts_told, function_facts}
use Rattle.holder_model_typing.proofs.ownership_kinds_chains.OwnershipChains.NoRings.{facts_of as facts_without_ring}
use Rattle.numbered_form.specs.Numbering.{values_of}
use Rattle.holder_model_typing.specs.ownership_kinds_chains.OwnershipChains.Chains.{operands_at}
use Rattle.holder_model_typing.specs.ownership_kinds_chains.OwnershipChains.Facts.{AreFactsOf, facts_with, told, told_at, value_of}
use Rattle.holder_model_typing.proofs.ownership_kinds_chains.OwnershipChains.Enough.{told_in_time}
use Rattle.holder_model_typing.specs.ownership_kinds_chains.OwnershipChains.Steps.{told_in}
use Rattle.holder_model_typing.specs.ownership_kinds_chains.declared.ownership_chains.definition.Definition.{Definition}
use Rattle.holder_model_typing.specs.ownership_kinds_chains.declared.ownership_chains.facts.Facts.{Facts}
use Rattle.holder_model_typing.specs.ownership_kinds_origins.Facts.{facts_in}
use Rattle.holder_model_typing.proofs.ownership_kinds_origins.Counts.{are_of_values}
use Rattle.holder_model_typing.specs.ownership_kinds_origins.Origins.{definitions_of}
use Rattle.holder_model_typing.proofs.RunTypingLaws.ItemFacts.{values_counted}
use Rattle.holder_model_typing.specs.sil_types_declarations.TypeDefinitions.Declarations.{Declarations, declarations_of}
use Rattle.holder_model_typing.specs.sil_types_declarations.declared.type_definitions.kind.Kind.TheVariants as kind
use Rattle.sil_verifier_values.specs.inner.Known.{AreFactsKnown, AreRunFacts, IsAcceptedBody, IsValue, facts_at, told_in_function}
use Rattle.sil_verifier_values.proofs.Accepted.{as_many, in_range, no_ring}

-- ---- each value has facts

module _ (m : Module) (n : ℕ) (f : Function) (a : IsAcceptedBody m n f) where
  abbrev d : Declarations
  d = declarations_of m

  abbrev defs : List Definition
  defs = definitions_of d f

  is_in : (v : ValueId) → IsValue f v → v.0 < length defs
  is_in v lt = let level : length defs ≡ length (values_of f.blocks) = as_many m n f a in omega arith

  pub operand_is_value : (v w : ValueId) → IsValue f v → Contains (operands_at defs v) w → IsValue f w
  operand_is_value v w lt c =
      let inside : w.0 < length defs = All-contains (λ x. x.0 < length defs) (operands_at defs v) w ((in_range m n f a).inside v (is_in v lt)) c in
      let level : length defs ≡ length (values_of f.blocks) = as_many m n f a in
      omega arith

  told_within : (v : ValueId) → IsValue f v → facts_in d f v ≡ told_in defs (length defs) v
  told_within v lt = ap (λ b. if b then told_in defs (length defs) v else None) (lt-ltb v.0 (length defs) (is_in v lt))

  -- what is known of a value is so
  pub known : (v : ValueId) → IsValue f v → AreFactsOf defs v (facts_at d f v)
  known v lt =
      let x = facts_without_ring defs (in_range m n f a) (no_ring m n f a) v (is_in v lt) in
      let so : AreFactsOf defs v x.0 = (told_in_time defs v x.0 (in_range m n f a) (is_in v lt)).1 x.1 in
      let is : facts_in d f v ≡ Some x.0 = told_within v lt ∙ x.1 in
      subst (AreFactsOf defs v) (sym (ap (λ (o : Option Facts). unwrap_or o (facts_with kind.Plain [])) is)) so

  pub told_so : (v : ValueId) → IsValue f v → facts_in d f v ≡ Some (told_in_function d f v)
  told_so v lt =
      told_within v lt
      ∙ (told_in_time defs v (told_in_function d f v) (in_range m n f a) (is_in v lt)).0 (told v (facts_at d f) (λ w c. known w (operand_is_value v w lt c)))

  pub facts_so : (v : ValueId) → IsValue f v → facts_at d f v ≡ told_in_function d f v
  facts_so v lt = ap (λ (o : Option Facts). unwrap_or o (facts_with kind.Plain [])) (told_so v lt)

pub facts_known : AreFactsKnown
facts_known m n f a v lt = told_so m n f a v lt

-- ---- what a run is told

beyond : (d : Declarations) (f : Function) (v : ValueId) → value_count f ≤ v.0 → facts_in d f v ≡ None
beyond d f v le =
    let level : length (definitions_of d f) ≡ length (values_of f.blocks) = (are_of_values d f).0 in
    let count : value_count f ≡ length (values_of f.blocks) = values_counted f in
    ap (λ b. if b then told_in (definitions_of d f) (length (definitions_of d f)) v else None) (le-ltb v.0 (length (definitions_of d f)) (omega arith))

-- a number that is no value's has no kind and no bases
pub value_or_none : (d : Declarations) (f : Function) (v : ValueId) → IsValue f v ⊎ (facts_at d f v ≡ facts_with kind.Plain [])
value_or_none d f v = at (cases_lt v.0 (length (values_of f.blocks)))
  where
    at : (v.0 < length (values_of f.blocks)) ⊎ (length (values_of f.blocks) ≤ v.0) → IsValue f v ⊎ (facts_at d f v ≡ facts_with kind.Plain [])
    at (inl lt) = inl lt
    at (inr le) =
        let count : value_count f ≡ length (values_of f.blocks) = values_counted f in
        inr (ap (λ (o : Option Facts). unwrap_or o (facts_with kind.Plain [])) (beyond d f v (omega arith)))

told_here : (d : Declarations) (f : Function) (v : ValueId) → told_at (function_facts d f) v ≡ facts_in d f v
told_here d f v = at (cases_lt v.0 (value_count f))
  where
    at : (v.0 < value_count f) ⊎ (value_count f ≤ v.0) → told_at (function_facts d f) v ≡ facts_in d f v
    at (inl lt) =
        unwrap_or-slice_get (function_facts d f) v.0 None
        ∙ get_or-map-range_with_len (λ k. facts_in d f (value_of k)) 0 (value_count f) v.0 v.0 None lt (omega arith)
    at (inr le) =
        let long : length (function_facts d f) ≡ value_count f = length-map-range_with_len (λ k. facts_in d f (value_of k)) 0 (value_count f) in
        ap (λ (o : Option (Option Facts)). unwrap_or o None) (slice_get_past (function_facts d f) v.0 (omega arith)) ∙ sym (beyond d f v le)

pub run_facts : AreRunFacts
run_facts m g f there = λ i v. each v i
  where
    listed : slice_get (facts_of m).facts g.0 ≡ Some (function_facts (declarations_of m) f)
    listed = slice_get-map (function_facts (declarations_of m)) m.functions g.0 ∙ ap (option_map (function_facts (declarations_of m))) there

    each : (v : ValueId) → facts_told (facts_of m) g v ≡ facts_in (declarations_of m) f v
    each v = ap (λ (o : Option (List (Option Facts))). told_at (unwrap_or o []) v) listed ∙ told_here (declarations_of m) f v
