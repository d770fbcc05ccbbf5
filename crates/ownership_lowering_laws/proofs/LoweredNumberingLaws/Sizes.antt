-- How many instructions and values there are in lowered code: no more values than the limit counts, and few instructions for each.
use Rattle.std.proofs.Common.{◌≡◌, ℕ, suc, ◌+◌, ◌*◌, ◌<◌, ◌≤◌, List, [], ◌∷◌, ◌++◌, length, map, length-append, refl, sym, ap, ap₂, ◌∙◌}
use Rattle.std.proofs.Common.{arith, Bool, true, false, not, cond, Option, Some, None}
use Rattle.std.specs.Prelude.{count_by, filter, slice_get}
use Rattle.std.specs.List.{flat_map}
use Rattle.std.specs.Option.{option_to_list}
use Rattle.std.proofs.Math.Nat.{mul-suc}
use Rattle.std.proofs.lemmas.List.{length-map, map-append}
use Rattle.std.proofs.lemmas.List.Sums.{count_by-le-length, length-filter, sum_by-append, sum_by-cons}
use Rattle.instruction_table.specs.declared.op.Op.{Op}
use Rattle.instruction_table.specs.declared.op.Op.TheVariants as op
use Rattle.sil_ast.specs.declared.function.Block.{Block}
use Rattle.sil_ast.specs.declared.function.Function.{Function}
use Rattle.sil_ast.specs.declared.inst.Inst.{Inst}
use Rattle.sil_ast.specs.declared.inst.Qualifier.{Qualifier}
use Rattle.sil_ast.specs.declared.inst.Qualifier.TheVariants as word
use Rattle.sil_ast.specs.declared.member.Member.{Member}
use Rattle.sil_ast.specs.declared.operands.Operand.{Operand}
use Rattle.sil_ast.specs.declared.place.ValueId.{ValueId}
use Rattle.ownership_lowering_model.specs.Extracts.{element_extracts, extracts_elements, extracts_fields, field_extracts, members_of_struct}
use Rattle.ownership_lowering_model.specs.LoweredBlocks.{block_becomes, blocks_become, insts_become, value_with}
use Rattle.ownership_lowering_model.specs.LoweredInsts.{assigns, becomes, becomes_by, destroys_by, loads_by, lowering_of, operand_at, releases_at, retains_loaded}
use Rattle.ownership_lowering_model.specs.LoweredInsts.{stores_by}
use Rattle.ownership_lowering_model.specs.NewInsts.{loaded_from, release, retain}
use Rattle.ownership_lowering_model.specs.Numbers.{renumbered, renumbered_block, renumbered_inst}
use Rattle.ownership_lowering_model.specs.declared.lowering.Lowering.{Lowering}
use Rattle.ownership_lowering_model.specs.declared.lowering.Lowering.TheVariants as lowering
use Rattle.numbered_form.specs.Insts.{insts_in, insts_of}
use Rattle.numbered_form.specs.Lists.{Each}
use Rattle.numbered_form.specs.Numbering.{defined_in, results_of, value_of, values_of}
use Rattle.numbered_form.specs.inner.Limits.{IsBlockInLimits, IsInstInLimits, inst_takes_value, takes_value, value_count}
use Rattle.ownership_kinds.specs.ownership_kinds_origins.Renamings.{renamings_of}
use Rattle.holder_model_typing.specs.sil_types.Typing.FormRules.{is_at_storage}
use Rattle.holder_model_typing.specs.sil_types.Typing.RowTypes.{passes}
use Rattle.sil_types_declarations.specs.TypeDefinitions.Declarations.{Declarations}
use Rattle.sil_types_declarations.specs.TypeDefinitions.Rules.{is_class_type}
use Rattle.ownership_lowering_laws.proofs.LoweringLaws.Covered.{New, new_defines, next_define, old_defines, own}
use Rattle.ownership_lowering_laws.proofs.LoweringLaws.Known.{Known, KnownBlock}
use Rattle.ownership_lowering_laws.proofs.LoweringLaws.NewValues.{spare_values_by, takes_spare, takes_spare_by}
use Rattle.ownership_lowering_laws.proofs.LoweringLaws.Renumbered.{renumbered_values}
use Rattle.holder_model_typing.specs.holder_model.RunTyping.Runnable.{IsShort}
use Rattle.holder_model_typing.proofs.RunTypingLaws.Declared.{each_append}

-- ---- how many instructions there are

flat_few : {A B : Type 0} (g : A → List B) (n : ℕ) → ((x : A) → length (g x) ≤ n) → (xs : List A) → length (flat_map g xs) ≤ n * length xs
flat_few g n few [] = omega arith
flat_few g n few (x ∷ xs) =
    let long : length (g x ++ flat_map g xs) ≡ length (g x) + length (flat_map g xs) = length-append (g x) (flat_map g xs) in
    let here : length (g x) ≤ n = few x in
    let rest : length (flat_map g xs) ≤ n * length xs = flat_few g n few xs in
    let product : n * suc (length xs) ≡ n * length xs + n = mul-suc n (length xs) in
    omega arith

at_most_one : {A : Type 0} (o : Option A) → length (option_to_list o) ≤ 1
at_most_one None = omega arith
at_most_one (Some x) = omega arith

fields_few : (x : Operand) (ms : List Member) (vs : List ValueId) → length (field_extracts x ms vs) ≤ length vs
fields_few x [] vs = omega arith
fields_few x (m ∷ ms) [] = omega arith
fields_few x (m ∷ ms) (v ∷ vs) = let rest : length (field_extracts x ms vs) ≤ length vs = fields_few x ms vs in omega arith

elements_few : (x : Operand) (n : ℕ) (vs : List ValueId) → length (element_extracts x n vs) ≤ length vs
elements_few x n [] = omega arith
elements_few x n (v ∷ vs) = let rest : length (element_extracts x (n + 1) vs) ≤ length vs = elements_few x (n + 1) vs in omega arith

module _ (d : Declarations) (spare : ValueId) (i : Inst) (few_operands : length i.operands ≤ 64) (few_results : length i.results ≤ 64) where
  loads_few : (q : Qualifier) → length (loads_by d spare q i) ≤ 4096
  loads_few word.Copy =
      let one : length (operand_at 0 i) ≤ 1 = at_most_one (slice_get i.operands 0) in
      let each : length (flat_map (retains_loaded d spare i.results) (operand_at 0 i)) ≤ 64 * length (operand_at 0 i) =
      flat_few (retains_loaded d spare i.results) 64
      (λ place. let same : length (retains_loaded d spare i.results place) ≡ length i.results =
      length-map i.results (λ v. retain d (loaded_from place v)) in omega arith) (operand_at 0 i) in
      omega arith
  loads_few _ = omega arith

  stores_few : (q : Qualifier) → length (stores_by d spare q i) ≤ 4096
  stores_few word.Assign =
      let one : length (operand_at 1 i) ≤ 1 = at_most_one (slice_get i.operands 1) in
      let each : length (flat_map (assigns d spare i) (operand_at 1 i)) ≤ 3 * length (operand_at 1 i) =
      flat_few (assigns d spare i) 3 (λ place. omega arith) (operand_at 1 i) in
      omega arith
  stores_few _ = omega arith

  destroys_few : (stored : Bool) → length (destroys_by d spare stored i) ≤ 4096
  destroys_few true = omega arith
  destroys_few false =
      let each : length (flat_map (releases_at d spare) i.operands) ≤ 2 * length i.operands =
      flat_few (releases_at d spare) 2 (λ place. omega arith) i.operands in
      omega arith

  by_few : (l : Lowering) → length (becomes_by d spare l i) ≤ 4096
  by_few lowering.Stays = omega arith
  by_few lowering.Vanishes = omega arith
  by_few lowering.Retains = let same : length (map (retain d) i.operands) ≡ length i.operands = length-map i.operands (retain d) in omega arith
  by_few lowering.Releases = let same : length (map (release d) i.operands) ≡ length i.operands = length-map i.operands (release d) in omega arith
  by_few lowering.Loads = loads_few i.qualifier
  by_few lowering.Stores = stores_few i.qualifier
  by_few lowering.Destroys = destroys_few (is_at_storage i)
  by_few lowering.ExtractsFields =
      let each : length (flat_map (extracts_fields d i.results) i.operands) ≤ 64 * length i.operands =
      flat_few (extracts_fields d i.results) 64
      (λ x. let le : length (extracts_fields d i.results x) ≤ length i.results =
      fields_few x (flat_map (members_of_struct d) (option_to_list x.ty)) i.results in omega arith) i.operands in
      omega arith
  by_few lowering.ExtractsElements =
      let each : length (flat_map (extracts_elements i.results) i.operands) ≤ 64 * length i.operands =
      flat_few (extracts_elements i.results) 64
      (λ x. let le : length (extracts_elements i.results x) ≤ length i.results = elements_few x 0 i.results in omega arith) i.operands in
      omega arith

  pub becomes_few : length (becomes d spare i) ≤ 4096
  becomes_few = by_few (lowering_of i.op)

-- ---- how many values the limit counts

none_take : (is : List Inst) → Each (λ i. inst_takes_value i ≡ false) is → count_by inst_takes_value is ≡ 0
none_take [] h = refl
none_take (i ∷ is) h =
    sum_by-cons (λ j. cond (inst_takes_value j) 1 0) i is ∙ ap₂ (λ a b. a + b) (ap (λ b. cond b 1 0) h.0) (none_take is h.1)

release_takes_none : (b : Bool) → takes_value (cond b op.StrongRelease op.ReleaseValue) word.Plain ≡ false
release_takes_none true = refl
release_takes_none false = refl

retain_takes_none : (b : Bool) → takes_value (cond b op.StrongRetain op.RetainValue) word.Plain ≡ false
retain_takes_none true = refl
retain_takes_none false = refl

abbrev TakesNone : Inst → Type 0
TakesNone i = inst_takes_value i ≡ false

module _ (d : Declarations) where
  release_none : (x : Operand) → TakesNone (release d x)
  release_none x = release_takes_none (passes (is_class_type d) x.ty)

  retain_none : (x : Operand) → TakesNone (retain d x)
  retain_none x = retain_takes_none (passes (is_class_type d) x.ty)

fields_none : (x : Operand) (ms : List Member) (vs : List ValueId) → Each TakesNone (field_extracts x ms vs)
fields_none x [] vs = tt
fields_none x (m ∷ ms) [] = tt
fields_none x (m ∷ ms) (v ∷ vs) = (refl, fields_none x ms vs)

elements_none : (x : Operand) (n : ℕ) (vs : List ValueId) → Each TakesNone (element_extracts x n vs)
elements_none x n [] = tt
elements_none x n (v ∷ vs) = (refl, elements_none x (n + 1) vs)

-- whatever holds of all elements
pub each_of : {A : Type 0} (P : A → Type 0) → ((x : A) → P x) → (xs : List A) → Each P xs
each_of P h [] = tt
each_of P h (x ∷ xs) = (h x, each_of P h xs)

each_map_of : {A B : Type 0} (g : A → B) (P : B → Type 0) → ((x : A) → P (g x)) → (xs : List A) → Each P (map g xs)
each_map_of g P h [] = tt
each_map_of g P h (x ∷ xs) = (h x, each_map_of g P h xs)

each_flat_of : {A B : Type 0} (g : A → List B) (P : B → Type 0) → ((x : A) → Each P (g x)) → (xs : List A) → Each P (flat_map g xs)
each_flat_of g P h [] = tt
each_flat_of g P h (x ∷ xs) = each_append P (g x) (flat_map g xs) (h x) (each_flat_of g P h xs)

module _ (d : Declarations) (spare : ValueId) (i : Inst) where
  loads_none : (q : Qualifier) → Each TakesNone (loads_by d spare q i)
  loads_none word.Copy = (
    refl,
    each_flat_of (retains_loaded d spare i.results) TakesNone
        (λ place. each_map_of (λ v. retain d (loaded_from place v)) TakesNone (λ v. retain_none d (loaded_from place v)) i.results) (operand_at 0 i),
  )
  loads_none _ = (refl, tt)

  stores_none : i.op ≡ op.Store → (q : Qualifier) → Each TakesNone (stores_by d spare q i)
  stores_none e word.Assign =
      each_flat_of (assigns d spare i) TakesNone (λ place. (refl, (ap (λ o. takes_value o word.Plain) e, (release_none d (loaded_from place spare), tt))))
      (operand_at 1 i)
  stores_none e _ = (ap (λ o. takes_value o word.Plain) e, tt)

  abbrev taken : Bool → ℕ
  taken b = cond b 1 0

  -- spare values and what the limit still counts are no more than what it counted
  abbrev TakesLess : Op → Type 0
  TakesLess o = taken (takes_spare_by (lowering_of o) i) + count_by inst_takes_value (becomes_by d spare (lowering_of o) i) ≤ taken (takes_value o i.qualifier)

  by_none : (o : Op) → takes_spare_by (lowering_of o) i ≡ takes_value o i.qualifier → Each TakesNone (becomes_by d spare (lowering_of o) i) → TakesLess o
  by_none o e h =
      let none : count_by inst_takes_value (becomes_by d spare (lowering_of o) i) ≡ 0 = none_take (becomes_by d spare (lowering_of o) i) h in
      let same : taken (takes_spare_by (lowering_of o) i) ≡ taken (takes_value o i.qualifier) = ap taken e in
      omega arith

  destroys_less : (stored : Bool) → taken (not stored) + count_by inst_takes_value (destroys_by d spare stored i) ≤ 1
  destroys_less true = let le : count_by inst_takes_value (i ∷ []) ≤ 1 = count_by-le-length inst_takes_value (i ∷ []) in omega arith
  destroys_less false =
      let none : count_by inst_takes_value (flat_map (releases_at d spare) i.operands) ≡ 0 =
      none_take (flat_map (releases_at d spare) i.operands)
      (each_flat_of (releases_at d spare) TakesNone (λ place. (refl, (release_none d (loaded_from place spare), tt))) i.operands) in
      omega arith

  stays_less : (o : Op) → i.op ≡ o → 0 + count_by inst_takes_value (i ∷ []) ≤ taken (takes_value o i.qualifier)
  stays_less o e =
      let one : count_by inst_takes_value (i ∷ []) ≡ taken (inst_takes_value i) + 0 = sum_by-cons (λ j. taken (inst_takes_value j)) i [] in
      let same : taken (inst_takes_value i) ≡ taken (takes_value o i.qualifier) = ap (λ x. taken (takes_value x i.qualifier)) e in
      omega arith

  by_less : (o : Op) → i.op ≡ o → TakesLess o
  by_less op.CopyValue e = by_none op.CopyValue refl (each_map_of (retain d) TakesNone (retain_none d) i.operands)
  by_less op.DestroyValue e = by_none op.DestroyValue refl (each_map_of (release d) TakesNone (release_none d) i.operands)
  by_less op.MoveValue e = by_none op.MoveValue refl tt
  by_less op.BeginBorrow e = by_none op.BeginBorrow refl tt
  by_less op.EndBorrow e = by_none op.EndBorrow refl tt
  by_less op.Load e = by_none op.Load refl (loads_none i.qualifier)
  by_less op.LoadBorrow e = by_none op.LoadBorrow refl (loads_none i.qualifier)
  by_less op.Store e = by_none op.Store refl (stores_none e i.qualifier)
  by_less op.DestroyAddr e = destroys_less (is_at_storage i)
  by_less op.DestructureStruct e =
      by_none op.DestructureStruct refl
      (each_flat_of (extracts_fields d i.results) TakesNone (λ x. fields_none x (flat_map (members_of_struct d) (option_to_list x.ty)) i.results) i.operands)
  by_less op.DestructureTuple e =
      by_none op.DestructureTuple refl (each_flat_of (extracts_elements i.results) TakesNone (λ x. elements_none x 0 i.results) i.operands)
  by_less o e = stays_less o e

  becomes_less : taken (takes_spare i) + count_by inst_takes_value (becomes d spare i) ≤ taken (inst_takes_value i)
  becomes_less = by_less i.op refl

-- ---- blocks

counted_append : (xs ys : List Inst) → count_by inst_takes_value (xs ++ ys) ≡ count_by inst_takes_value xs + count_by inst_takes_value ys
counted_append xs ys = sum_by-append (λ j. cond (inst_takes_value j) 1 0) xs ys

pub kept_few : {A : Type 0} (test : A → Bool) (xs : List A) → length (filter test xs) ≤ length xs
kept_few test xs =
    let same : length (filter test xs) ≡ count_by test xs = length-filter test xs in
    let le : count_by test xs ≤ length xs = count_by-le-length test xs in
    omega arith

spares_are : (takes : Bool) (spare : ValueId) → length (spare_values_by takes spare) ≡ cond takes 1 0
spares_are true spare = refl
spares_are false spare = refl

module _ (d : Declarations) (f : Function) where
  abbrev Anew : ℕ → List Inst → List Inst
  Anew spare is = insts_become d (renamings_of f) spare is

  insts_less : (spare : ℕ) (is : List Inst) → Each (Known d f) is
      → length (New d f spare is) + count_by inst_takes_value (Anew spare is) ≤ length (flat_map results_of is) + count_by inst_takes_value is
  insts_less spare [] k = omega arith
  insts_less spare (i ∷ is) k =
      let new : List Inst = becomes d (value_with spare) i in
      let spares : List ValueId = spare_values_by (takes_spare i) (value_with spare) in
      let kept : List ValueId = filter (own d f) i.results in
      let rest : length (New d f (spare + 1) is) + count_by inst_takes_value (Anew (spare + 1) is) ≤ length
      (flat_map results_of is) + count_by inst_takes_value is =
      insts_less (spare + 1) is k.1 in
      let values : length (New d f spare (i ∷ is)) ≡ (length spares + length kept) + length (New d f (spare + 1) is) =
      ap length (next_define d f spare i is k.0) ∙ length-append (spares ++ kept) (New d f (spare + 1) is)
      ∙ ap (λ n. n + length (New d f (spare + 1) is)) (length-append spares kept) in
      let takes : count_by inst_takes_value (new ++ Anew (spare + 1) is) ≡ count_by inst_takes_value new + count_by inst_takes_value (Anew (spare + 1) is) =
      counted_append new (Anew (spare + 1) is) in
      let less : cond (takes_spare i) 1 0 + count_by inst_takes_value new ≤ cond (inst_takes_value i) 1 0 = becomes_less d (value_with spare) i in
      let few : length kept ≤ length i.results = kept_few (own d f) i.results in
      let spare_count : length spares ≡ cond (takes_spare i) 1 0 = spares_are (takes_spare i) (value_with spare) in
      let old : length (i.results ++ flat_map results_of is) ≡ length i.results + length (flat_map results_of is) =
      length-append i.results (flat_map results_of is) in
      let old_takes : count_by inst_takes_value (i ∷ is) ≡ cond (inst_takes_value i) 1 0 + count_by inst_takes_value is =
      sum_by-cons (λ j. cond (inst_takes_value j) 1 0) i is in
      omega arith

  block_less : (spare : ℕ) (b : Block) → KnownBlock d f b
      → length (defined_in (block_becomes d (renamings_of f) spare b)) + count_by inst_takes_value (insts_of (block_becomes d (renamings_of f) spare b))
      ≤ length (defined_in b) + count_by inst_takes_value (insts_of b)
  block_less spare b k =
      let args : List ValueId = map value_of b.args in
      let new : length (defined_in (block_becomes d (renamings_of f) spare b)) ≡ length (filter (own d f) args) + length (New d f spare b.insts) =
      ap length (new_defines d f spare b k) ∙ length-append (filter (own d f) args) (New d f spare b.insts) in
      let old : length (defined_in b) ≡ length args + length (flat_map results_of b.insts) = ap length (old_defines d f b k)
      ∙ length-append args (flat_map results_of b.insts) in
      let few : length (filter (own d f) args) ≤ length args = kept_few (own d f) args in
      let less : length (New d f spare b.insts) + count_by inst_takes_value (Anew spare b.insts) ≤ length
      (flat_map results_of b.insts) + count_by inst_takes_value b.insts =
      insts_less spare b.insts k.insts in
      let new_takes : count_by inst_takes_value (Anew spare b.insts ++ b.terminator ∷ []) ≡ count_by inst_takes_value
      (Anew spare b.insts) + count_by inst_takes_value (b.terminator ∷ []) =
      counted_append (Anew spare b.insts) (b.terminator ∷ []) in
      let old_takes : count_by inst_takes_value (b.insts ++ b.terminator ∷ []) ≡ count_by inst_takes_value b.insts + count_by inst_takes_value
      (b.terminator ∷ []) =
      counted_append b.insts (b.terminator ∷ []) in
      omega arith

  pub blocks_less : (spare : ℕ) (bs : List Block) → Each (KnownBlock d f) bs → value_count (blocks_become d (renamings_of f) spare bs) ≤ value_count bs
  blocks_less spare [] k = omega arith
  blocks_less spare (b ∷ bs) k =
      let c : Block = block_becomes d (renamings_of f) spare b in
      let cs : List Block = blocks_become d (renamings_of f) (spare + length b.insts) bs in
      let here : length (defined_in c) + count_by inst_takes_value (insts_of c) ≤ length (defined_in b) + count_by inst_takes_value (insts_of b) =
      block_less spare b k.0 in
      let rest : length (values_of cs) + count_by inst_takes_value (insts_in cs) ≤ length (values_of bs) + count_by inst_takes_value (insts_in bs) =
      blocks_less (spare + length b.insts) bs k.1 in
      let new : length (defined_in c ++ values_of cs) ≡ length (defined_in c) + length (values_of cs) = length-append (defined_in c) (values_of cs) in
      let old : length (defined_in b ++ values_of bs) ≡ length (defined_in b) + length (values_of bs) = length-append (defined_in b) (values_of bs) in
      let new_takes : count_by inst_takes_value (insts_of c ++ insts_in cs) ≡ count_by inst_takes_value (insts_of c) + count_by inst_takes_value (insts_in cs) =
      counted_append (insts_of c) (insts_in cs) in
      let old_takes : count_by inst_takes_value (insts_of b ++ insts_in bs) ≡ count_by inst_takes_value (insts_of b) + count_by inst_takes_value (insts_in bs) =
      counted_append (insts_of b) (insts_in bs) in
      omega arith

-- ---- and how many instructions

module _ (d : Declarations) (f : Function) where
  insts_few : (spare : ℕ) (is : List Inst) → Each IsInstInLimits is → length (insts_become d (renamings_of f) spare is) ≤ 4096 * length is
  insts_few spare [] h = omega arith
  insts_few spare (i ∷ is) h =
      let new : List Inst = becomes d (value_with spare) i in
      let here : length new ≤ 4096 = becomes_few d (value_with spare) i h.0.operands h.0.results in
      let rest : length (insts_become d (renamings_of f) (spare + 1) is) ≤ 4096 * length is = insts_few (spare + 1) is h.1 in
      let all : length (new ++ insts_become d (renamings_of f) (spare + 1) is) ≡ length new + length (insts_become d (renamings_of f) (spare + 1) is) =
      length-append new (insts_become d (renamings_of f) (spare + 1) is) in
      omega arith

  -- a lowered block, with new numbers, of one of no more instructions than a function may have
  block_short : (number : ValueId → ValueId) (spare : ℕ) (b : Block) → Each IsInstInLimits b.insts → length b.insts ≤ 4096
      → length (insts_of (renumbered_block number (block_becomes d (renamings_of f) spare b))) < 4294967296
  block_short number spare b h le =
      let new : List Inst = insts_become d (renamings_of f) spare b.insts in
      let few : length new ≤ 4096 * length b.insts = insts_few spare b.insts h in
      let same : length (map (renumbered_inst number) new) ≡ length new = length-map new (renumbered_inst number) in
      let end : length (map (renumbered_inst number) new ++ renumbered_inst number b.terminator ∷ []) ≡ length (map (renumbered_inst number) new) + 1 =
      length-append (map (renumbered_inst number) new) (renumbered_inst number b.terminator ∷ []) in
      omega arith

  pub blocks_short : (number : ValueId → ValueId) (spare : ℕ) (bs : List Block) → Each IsBlockInLimits bs → length (insts_in bs) ≤ 4096
      → Each IsShort (renumbered number (blocks_become d (renamings_of f) spare bs))
  blocks_short number spare [] h le = tt
  blocks_short number spare (b ∷ bs) h le =
      let all : length (insts_of b ++ insts_in bs) ≡ length (insts_of b) + length (insts_in bs) = length-append (insts_of b) (insts_in bs) in
      let own : length (b.insts ++ b.terminator ∷ []) ≡ length b.insts + 1 = length-append b.insts (b.terminator ∷ []) in
      (block_short number spare b h.0.insts.0 (omega arith), blocks_short number (spare + length b.insts) bs h.1 (omega arith))

-- ---- with new numbers the limit counts the same

module _ (number : ValueId → ValueId) where
  takers_alike : (is : List Inst) → count_by inst_takes_value (map (renumbered_inst number) is) ≡ count_by inst_takes_value is
  takers_alike [] = refl
  takers_alike (i ∷ is) =
      sum_by-cons (λ j. cond (inst_takes_value j) 1 0) (renumbered_inst number i) (map (renumbered_inst number) is)
      ∙ ap (λ n. cond (inst_takes_value i) 1 0 + n) (takers_alike is)
      ∙ sym (sum_by-cons (λ j. cond (inst_takes_value j) 1 0) i is)

  insts_alike : (bs : List Block) → insts_in (renumbered number bs) ≡ map (renumbered_inst number) (insts_in bs)
  insts_alike [] = refl
  insts_alike (b ∷ bs) =
      ap₂ (λ x y. x ++ y) (sym (map-append (renumbered_inst number) b.insts (b.terminator ∷ []))) (insts_alike bs)
      ∙ sym (map-append (renumbered_inst number) (insts_of b) (insts_in bs))

  pub renumbered_count : (bs : List Block) → value_count (renumbered number bs) ≡ value_count bs
  renumbered_count bs =
      ap₂ (λ x y. x + y) (ap length (renumbered_values number bs) ∙ length-map (values_of bs) number)
      (ap (count_by inst_takes_value) (insts_alike bs) ∙ takers_alike (insts_in bs))
