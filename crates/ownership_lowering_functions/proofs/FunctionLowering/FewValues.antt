-- Lowered code defines few values: of each instruction at most 4,160, and so no more than numbers can tell apart.
use Rattle.std.proofs.Common.{◌≡◌, ℕ, suc, ◌+◌, ◌*◌, ◌<◌, ◌≤◌, ◌^◌, List, [], ◌∷◌, ◌++◌, length, map, refl, ap, ◌∙◌, arith, Bool, true, false, Option, Some, None}
use Rattle.std.specs.Prelude.{filter, slice_get}
use Rattle.std.specs.List.{flat_map}
use Rattle.std.specs.Option.{option_to_list}
use Rattle.std.proofs.lemmas.List.{length-append, length-map}
use Rattle.std.proofs.lemmas.List.Concat.{flat_map-append}
use Rattle.std.proofs.lemmas.List.Sums.{count_by-le-length, length-filter}
use Rattle.sil_ast.specs.declared.function.Block.{Block}
use Rattle.sil_ast.specs.declared.function.BlockArg.{BlockArg}
use Rattle.sil_ast.specs.declared.function.Function.{Function}
use Rattle.sil_ast.specs.declared.inst.Inst.{Inst}
use Rattle.sil_ast.specs.declared.inst.Qualifier.{Qualifier}
use Rattle.sil_ast.specs.declared.inst.Qualifier.TheVariants as word
use Rattle.sil_ast.specs.declared.member.Member.{Member}
use Rattle.sil_ast.specs.declared.operands.Operand.{Operand}
use Rattle.sil_ast.specs.declared.place.ValueId.{ValueId}
use Rattle.numbered_form.specs.Insts.{insts_in, insts_of}
use Rattle.numbered_form.specs.Lists.{Each}
use Rattle.numbered_form.specs.Numbering.{defined_in, results_of, value_of, values_of}
use Rattle.numbered_form.specs.inner.Limits.{IsBlockInLimits, IsFunctionInLimits, IsInstInLimits}
use Rattle.ownership_kinds_chains.specs.declared.ownership_chains.definition.Definition.{Definition}
use Rattle.ownership_kinds_origins.proofs.Counts.{are_of_values}
use Rattle.ownership_kinds_origins.specs.Renamings.{renamings_of}
use Rattle.sil_types.specs.Typing.FormRules.{is_at_storage}
use Rattle.sil_types_declarations.specs.TypeDefinitions.Declarations.{Declarations}
use Rattle.ownership_lowering_model.specs.declared.lowering.Lowering.{Lowering}
use Rattle.ownership_lowering_model.specs.declared.lowering.Lowering.TheVariants as lowering
use Rattle.ownership_lowering_model.specs.Extracts.{element_extracts, extracts_elements, extracts_fields, field_extracts, members_of_struct}
use Rattle.ownership_lowering_model.specs.LoweredBlocks.{args_become, block_becomes, blocks_become, has_own_name, insts_become, value_with, without_annotation}
use Rattle.ownership_lowering_model.specs.LoweredInsts.{assigns, becomes, becomes_by, destroys_by, loads_by, lowering_of, releases_at, retains_loaded, stores_by}
use Rattle.ownership_lowering_model.specs.NewInsts.{release, retain}

-- how many values some instructions define
abbrev results_in : List Inst → ℕ
results_in is = length (flat_map results_of is)

one_after : (is js : List Inst) → results_in (is ++ js) ≡ results_in is + results_in js
one_after is js = ap length (flat_map-append results_of is js) ∙ length-append (flat_map results_of is) (flat_map results_of js)

alone : (i : Inst) → results_in (i ∷ []) ≡ length i.results
alone i = omega (arith, length-append i.results [])

retains_give_none : (d : Declarations) (os : List Operand) → results_in (map (retain d) os) ≡ 0
retains_give_none d [] = refl
retains_give_none d (o ∷ os) = retains_give_none d os

releases_give_none : (d : Declarations) (os : List Operand) → results_in (map (release d) os) ≡ 0
releases_give_none d [] = refl
releases_give_none d (o ∷ os) = releases_give_none d os

fields_give : (o : Operand) (ms : List Member) (vs : List ValueId) → results_in (field_extracts o ms vs) ≤ length vs
fields_give o [] vs = omega arith
fields_give o (m ∷ ms) [] = omega arith
fields_give o (m ∷ ms) (v ∷ vs) = let rest = fields_give o ms vs in omega arith

elements_give : (o : Operand) (n : ℕ) (vs : List ValueId) → results_in (element_extracts o n vs) ≤ length vs
elements_give o n [] = omega arith
elements_give o n (v ∷ vs) = let rest = elements_give o (n + 1) vs in omega arith

-- of each operand at most 64
each_gives : (f : Operand → List Inst) → ((o : Operand) → results_in (f o) ≤ 64) → (os : List Operand) → results_in (flat_map f os) ≤ 64 * length os
each_gives f few [] = omega arith
each_gives f few (o ∷ os) =
    let both : results_in (f o ++ flat_map f os) ≡ results_in (f o) + results_in (flat_map f os) = one_after (f o) (flat_map f os) in
    let here = few o in let rest = each_gives f few os in omega arith

module _ (d : Declarations) (spare : ValueId) where
  loaded_give_none : (vs : List ValueId) (place : Operand) → results_in (retains_loaded d spare vs place) ≡ 0
  loaded_give_none [] place = refl
  loaded_give_none (v ∷ vs) place = loaded_give_none vs place

  load_gives : (i : Inst) (q : Qualifier) → results_in (loads_by d spare q i) ≡ length i.results
  load_gives i word.Plain = alone i
  load_gives i word.Copy = at (slice_get i.operands 0)
    where
      at : (o : Option Operand) → length (i.results ++ flat_map results_of (flat_map (retains_loaded d spare i.results) (option_to_list o))) ≡ length i.results
      at None = omega (arith, length-append i.results [])
      at (Some place) =
          let more : results_in (retains_loaded d spare i.results place ++ []) ≡ results_in (retains_loaded d spare i.results place) + 0 = one_after (retains_loaded d spare i.results place) [] in
          let none = loaded_give_none i.results place in
          omega (arith, length-append i.results (flat_map results_of (retains_loaded d spare i.results place ++ [])))
  load_gives i word.Take = alone i
  load_gives i word.Trivial = alone i
  load_gives i word.Init = alone i
  load_gives i word.Assign = alone i

  store_gives : (i : Inst) (q : Qualifier) → results_in (stores_by d spare q i) ≤ 1 + length i.results
  store_gives i word.Plain = omega (arith, alone i)
  store_gives i word.Copy = omega (arith, alone i)
  store_gives i word.Take = omega (arith, alone i)
  store_gives i word.Trivial = omega (arith, alone i)
  store_gives i word.Init = omega (arith, alone i)
  store_gives i word.Assign = at (slice_get i.operands 1)
    where
      at : (o : Option Operand) → results_in (flat_map (assigns d spare i) (option_to_list o)) ≤ 1 + length i.results
      at None = omega arith
      at (Some place) = omega (arith, length-append i.results [])

  places_give : (places : List Operand) → results_in (flat_map (releases_at d spare) places) ≡ length places
  places_give [] = refl
  places_give (p ∷ places) = ap suc (places_give places)

  destroy_gives : (i : Inst) (storage : Bool) → results_in (destroys_by d spare storage i) ≤ length i.results + length i.operands
  destroy_gives i true = omega (arith, alone i)
  destroy_gives i false = omega (arith, places_give i.operands)

  gives_by : (i : Inst) → length i.operands ≤ 64 → length i.results ≤ 64 → (l : Lowering) → results_in (becomes_by d spare l i) ≤ 4160
  gives_by i os rs lowering.Stays = omega (arith, alone i)
  gives_by i os rs lowering.Vanishes = omega arith
  gives_by i os rs lowering.Retains = omega (arith, retains_give_none d i.operands)
  gives_by i os rs lowering.Releases = omega (arith, releases_give_none d i.operands)
  gives_by i os rs lowering.Loads = omega (arith, load_gives i i.qualifier)
  gives_by i os rs lowering.Stores = omega (arith, store_gives i i.qualifier)
  gives_by i os rs lowering.Destroys = omega (arith, destroy_gives i (is_at_storage i))
  gives_by i os rs lowering.ExtractsFields =
      omega (arith, each_gives (extracts_fields d i.results) (λ o. let few = fields_give o (flat_map (members_of_struct d) (option_to_list o.ty)) i.results in omega arith) i.operands)
  gives_by i os rs lowering.ExtractsElements =
      omega (arith, each_gives (extracts_elements i.results) (λ o. let few = elements_give o 0 i.results in omega arith) i.operands)

module _ (d : Declarations) (renamings : List Definition) where
  insts_give : (spare : ℕ) (is : List Inst) → Each IsInstInLimits is → results_in (insts_become d renamings spare is) ≤ 4160 * length is
  insts_give spare [] h = omega arith
  insts_give spare (i ∷ is) h =
      let new = becomes d (value_with spare) i in
      let behind = insts_become d renamings (spare + 1) is in
      let both : results_in (new ++ behind) ≡ results_in new + results_in behind = one_after new behind in
      let here = gives_by d (value_with spare) i h.0.operands h.0.results (lowering_of i.op) in
      let rest = insts_give (spare + 1) is h.1 in
      omega arith

  args_give : (args : List BlockArg) → length (map value_of (args_become renamings args)) ≤ length (map value_of args)
  args_give args =
      let kept = filter (has_own_name renamings) args in
      let named = length-map (args_become renamings args) value_of in
      let plain = length-map kept without_annotation in
      let old = length-map args value_of in
      let filtered = length-filter (has_own_name renamings) args in
      let few = count_by-le-length (has_own_name renamings) args in
      omega arith

  block_gives : (spare : ℕ) (b : Block) → IsBlockInLimits b → length (defined_in (block_becomes d renamings spare b)) ≤ length (defined_in b) + 4160 * length (insts_of b)
  block_gives spare b h =
      let t = b.terminator ∷ [] in
      let new = insts_become d renamings spare b.insts in
      let args = args_give b.args in
      let insts = insts_give spare b.insts h.insts.0 in
      let new_all = length-append (map value_of (args_become renamings b.args)) (flat_map results_of (new ++ t)) in
      let new_insts = one_after new t in
      let old_all = length-append (map value_of b.args) (flat_map results_of (insts_of b)) in
      let old_insts = one_after b.insts t in
      let count = length-append b.insts t in
      omega arith

  blocks_give : (spare : ℕ) (bs : List Block) → Each IsBlockInLimits bs →
      length (values_of (blocks_become d renamings spare bs)) ≤ length (values_of bs) + 4160 * length (insts_in bs)
  blocks_give spare [] h = omega arith
  blocks_give spare (b ∷ bs) h =
      let new = block_becomes d renamings spare b in
      let rest_of = blocks_become d renamings (spare + length b.insts) bs in
      let here = block_gives spare b h.0 in
      let rest = blocks_give (spare + length b.insts) bs h.1 in
      let new_all = length-append (defined_in new) (values_of rest_of) in
      let old_all = length-append (defined_in b) (values_of bs) in
      let count = length-append (insts_of b) (insts_in bs) in
      omega arith

  pub few_defined : (f : Function) (spare : ℕ) → IsFunctionInLimits f → length (values_of (blocks_become d renamings spare f.blocks)) < 2 ^ 32
  few_defined f spare limits =
      let all = blocks_give spare f.blocks limits.each in
      let insts = limits.insts in
      let values = limits.values in
      omega arith

-- with a spare value for each instruction they are few enough for numbers
few_values : (d : Declarations) (f : Function) → IsFunctionInLimits f → length (renamings_of f) + length (insts_in f.blocks) < 2 ^ 32
few_values d f limits =
    let all = (are_of_values d f).1 in
    let insts = limits.insts in
    let values = limits.values in
    omega arith

-- so they are where the renamings and the blocks are given as lists of their own
pub room_for_spares : (d : Declarations) (f : Function) (renamings : List Definition) (blocks : List Block) → IsFunctionInLimits f → renamings ≡ renamings_of f → blocks ≡ f.blocks
    → length renamings + length (insts_in blocks) < 2 ^ 32
room_for_spares d f renamings blocks limits named same =
    let few = few_values d f limits in
    let names : length renamings ≡ length (renamings_of f) = ap length named in
    let insts : length (insts_in blocks) ≡ length (insts_in f.blocks) = ap (λ bs. length (insts_in bs)) same in
    omega arith
