-- What a table tells of a function's values, and of a spare value for each instruction behind them.
use Rattle.std.proofs.Common.{◌≡◌, ℕ, ◌+◌, ◌<◌, List, [], ◌∷◌, ◌++◌, length, map, refl, sym, ap, ap₂, ◌∙◌, subst, arith, append_assoc, append-nil}
use Rattle.std.proofs.Common.{length-append, cond, Bool, true, false, Option, Some, None}
use Rattle.std.specs.Prelude.{filter, slice_get, unwrap_or}
use Rattle.std.specs.List.{flat_map}
use Rattle.std.proofs.lemmas.List.{length-map, map-append}
use Rattle.std.proofs.lemmas.List.Concat.{flat_map-append}
use Rattle.sil_ast.specs.declared.function.Block.{Block}
use Rattle.sil_ast.specs.declared.function.BlockArg.{BlockArg}
use Rattle.sil_ast.specs.declared.function.Function.{Function}
use Rattle.sil_ast.specs.declared.inst.Inst.{Inst}
use Rattle.sil_ast.specs.declared.place.ValueId.{ValueId}
use Rattle.numbered_form.specs.Insts.{insts_of}
use Rattle.numbered_form.specs.Lists.{Each}
use Rattle.numbered_form.specs.Numbering.{AreCountedFrom, defined_in, results_of, value_of, values_of}
use Rattle.ownership_kinds_chains.specs.declared.ownership_chains.definition.Definition.{Definition}
use Rattle.numbered_form.specs.PointChecks.Points.{IsAt}
use Rattle.sil_types_declarations.specs.TypeDefinitions.Declarations.{Declarations}
use Rattle.numbered_form.proofs.ValueTables.Rows.{rows_count}
use Rattle.numbered_form.specs.ValueTables.ValueRows.{rows_from, value_rows}
use Rattle.ownership_lowering_model.specs.LoweredBlocks.{args_become, block_becomes, blocks_become, has_own_name, insts_become, value_with, without_annotation}
use Rattle.ownership_lowering_model.specs.LoweredInsts.{becomes}
use Rattle.holder_model_typing.proofs.RunTypingLaws.Declared.{each_from}
use Rattle.holder_model_typing.proofs.RunTypingLaws.ListFacts.{each_parts, each_within, get_below, get_last, map_twice}
use Rattle.holder_model_typing.proofs.RunTypingLaws.Rows.Points.{in_front}
use Rattle.holder_model_typing.proofs.RunTypingLaws.Rows.Tables.{row_at, told_of_args, told_of_results}
use Rattle.numbered_form.proofs.Counted.{counted_below}
use Rattle.ownership_lowering_laws.proofs.LoweredTypingLaws.Lists.{get_behind, maps_same}

pub each_of_maps : {X A : Type 0} (f g : X → A) (xs : List X) → map f xs ≡ map g xs → Each (λ x. f x ≡ g x) xs
each_of_maps f g [] e = tt
each_of_maps f g (x ∷ xs) e = (cc, each_of_maps f g xs (cc))

-- what is told of the arguments of a block, of the results of its instructions, and of its spare values, the first of which has this number
module _ {A : Type 0} (arg : BlockArg → Option A) (results : Inst → List (Option A)) (spare : Inst → Option A) (value : ValueId → Option A) where
  pub record InstTold (s : ℕ) (i : Inst) : Type 0 where
    pub own : map value i.results ≡ results i
    pub new : value (value_with s) ≡ spare i

  abbrev pub InstsTold : ℕ → List Inst → Type 0
  InstsTold s [] = Unit {0}
  InstsTold s (i ∷ is) = InstTold s i × InstsTold (s + 1) is

  pub record BlockTold (s : ℕ) (b : Block) : Type 0 where
    pub args : Each (λ a. value a.value ≡ arg a) b.args
    pub insts : InstsTold s b.insts
    pub end : map value b.terminator.results ≡ results b.terminator

  abbrev pub BlocksTold : ℕ → List Block → Type 0
  BlocksTold s [] = Unit {0}
  BlocksTold s (b ∷ bs) = BlockTold s b × BlocksTold (s + length b.insts) bs

  -- ---- then so much is told of what the lowered blocks define

  module _ (d : Declarations) (renamings : List Definition) (arg_kept : (a : BlockArg) → arg (without_annotation a) ≡ arg a)
      (Q : Inst → Type 0) (each_becomes : (s : ℕ) (i : Inst) → Q i → InstTold s i
      → map value (flat_map results_of (becomes d (value_with s) i)) ≡ flat_map results (becomes d (value_with s) i)) where
    args_rows : (args : List BlockArg) → Each (λ a. value a.value ≡ arg a) args
        → map value (map value_of (args_become renamings args)) ≡ map arg (args_become renamings args)
    args_rows [] h = refl
    args_rows (a ∷ args) h = at (has_own_name renamings a) (args_rows args h.1)
      where
        at : (b : Bool) → map value (map value_of (args_become renamings args)) ≡ map arg (args_become renamings args)
            → map value (map value_of (map without_annotation (cond b (a ∷ filter (has_own_name renamings) args) (filter (has_own_name renamings) args))))
            ≡ map arg (map without_annotation (cond b (a ∷ filter (has_own_name renamings) args) (filter (has_own_name renamings) args)))
        at true rest = ap₂ (λ x xs. x ∷ xs) (h.0 ∙ sym (arg_kept a)) rest
        at false rest = rest

    insts_rows : (s : ℕ) (is : List Inst) → Each Q is → InstsTold s is
        → map value (flat_map results_of (insts_become d renamings s is)) ≡ flat_map results (insts_become d renamings s is)
    insts_rows s [] q h = refl
    insts_rows s (i ∷ is) q h =
        let here = becomes d (value_with s) i in
        let rest = insts_become d renamings (s + 1) is in
        ap (map value) (flat_map-append results_of here rest)
        ∙ map-append value (flat_map results_of here) (flat_map results_of rest)
        ∙ ap₂ (λ x y. x ++ y) (each_becomes s i q.0 h.0) (insts_rows (s + 1) is q.1 h.1)
        ∙ sym (flat_map-append results here rest)

    abbrev HasQ : Block → Type 0
    HasQ b = Each Q b.insts

    block_rows : (s : ℕ) (b : Block) → HasQ b → BlockTold s b
        → map value (defined_in (block_becomes d renamings s b))
        ≡ map arg (args_become renamings b.args) ++ flat_map results (insts_of (block_becomes d renamings s b))
    block_rows s b q h =
        let args = args_become renamings b.args in
        let is = insts_become d renamings s b.insts in
        let last = b.terminator ∷ [] in
        map-append value (map value_of args) (flat_map results_of (is ++ last))
        ∙ ap₂ (λ x y. x ++ y) (args_rows b.args h.args)
        (ap (map value) (flat_map-append results_of is last)
        ∙ map-append value (flat_map results_of is) (flat_map results_of last)
        ∙ ap₂ (λ x y. x ++ y) (insts_rows s b.insts q h.insts)
        (ap (map value) (append-nil b.terminator.results) ∙ h.end ∙ sym (append-nil (results b.terminator)))
        ∙ sym (flat_map-append results is last))

    pub blocks_rows : (n s : ℕ) (bs : List Block) → Each HasQ bs → BlocksTold s bs
        → map value (values_of (blocks_become d renamings s bs)) ≡ rows_from (λ k. map arg) results n (blocks_become d renamings s bs)
    blocks_rows n s [] q h = refl
    blocks_rows n s (b ∷ bs) q h =
        map-append value (defined_in (block_becomes d renamings s b)) (values_of (blocks_become d renamings (s + length b.insts) bs))
        ∙ ap₂ (λ x y. x ++ y) (block_rows s b q.0 h.0) (blocks_rows (n + 1) (s + length b.insts) bs q.1 h.1)

-- ---- such a table

module _ {A : Type 0} (arg : BlockArg → Option A) (results : Inst → List (Option A)) (spare : Inst → Option A)
    (level : (i : Inst) → length (results i) ≡ length i.results) (f : Function) (counted : AreCountedFrom 0 (values_of f.blocks)) where
  abbrev pub own_rows : List (Option A)
  own_rows = value_rows (λ k. map arg) results f

  abbrev block_spares : Block → List (Option A)
  block_spares b = map spare b.insts

  abbrev pub spare_rows : List (Option A)
  spare_rows = flat_map block_spares f.blocks

  -- of a value, by its number
  abbrev pub told : ValueId → Option A
  told v = row_at None (own_rows ++ spare_rows) v

  abbrev count : ℕ
  count = length (values_of f.blocks)

  args_level : (n : ℕ) (xs : List BlockArg) → length (map arg xs) ≡ length xs
  args_level n xs = length-map xs arg

  rows_level : length own_rows ≡ count
  rows_level = rows_count (λ k. map arg) results args_level level 0 f.blocks

  -- of the function's own values it tells what their own table tells
  pub told_own : (v : ValueId) → v.0 < count → row_at None own_rows v ≡ told v
  told_own v lt =
      let long = rows_level in
      let there = get_below own_rows v.0 (omega arith) in
      ap (λ o. unwrap_or o None) (there.1 ∙ sym (in_front own_rows spare_rows v.0 there.0 there.1))

  abbrev IsOwn : ValueId → Type 0
  IsOwn v = row_at None own_rows v ≡ told v

  pub values_below : Each (λ v. v.0 < count) (values_of f.blocks)
  values_below =
      let same : 0 + count ≡ count = omega arith in subst (λ n. Each (λ v. v.0 < n) (values_of f.blocks)) same (counted_below 0 (values_of f.blocks) counted)

  pub block_below : (k : ℕ) (b : Block) → slice_get f.blocks k ≡ Some b
      → Each (λ v. v.0 < count) (map value_of b.args) × Each (λ v. v.0 < count) (flat_map results_of (insts_of b))
  block_below k b is =
      each_parts (λ v. v.0 < count) (map value_of b.args) (flat_map results_of (insts_of b))
      (each_within defined_in (λ v. v.0 < count) f.blocks k b values_below is)

  pub results_below : (b k : ℕ) (i : Inst) → IsAt f b k i → Each (λ v. v.0 < count) i.results
  results_below b k i at = each_within results_of (λ v. v.0 < count) (insts_of at.within) k i (block_below b at.within at.is_block).1 at.is_inst

  own_each : (vs : List ValueId) → Each (λ v. v.0 < count) vs → Each IsOwn vs
  own_each [] h = tt
  own_each (v ∷ vs) h = (told_own v h.0, own_each vs h.1)

  pub results_told : (b k : ℕ) (i : Inst) → IsAt f b k i → map told i.results ≡ results i
  results_told b k i at =
      sym (maps_same (row_at None own_rows) told i.results (own_each i.results (results_below b k i at)))
      ∙ told_of_results (λ n. map arg) results args_level level None f counted b k i at

  args_told : (k : ℕ) (b : Block) → slice_get f.blocks k ≡ Some b → Each (λ a. told a.value ≡ arg a) b.args
  args_told k b is =
      each_of_maps (λ a. told a.value) arg b.args
      (sym (map_twice told value_of b.args)
      ∙ sym (maps_same (row_at None own_rows) told (map value_of b.args) (own_each (map value_of b.args) (block_below k b is).0))
      ∙ told_of_args (λ n. map arg) results args_level level None f counted k b is)

  -- ---- spare values

  spare_there : (before after : List (Option A)) (x : Option A) (s : ℕ) → spare_rows ≡ before ++ (x ∷ after) → count + length before ≡ s
      → told (value_with s) ≡ x
  spare_there before after x s split start =
      let long = rows_level in
      let none : length before + 0 ≡ length before = omega arith in
      ap (λ o. unwrap_or o None)
      (get_behind own_rows spare_rows (length before) s (omega arith)
      ∙ ap (λ l. slice_get l (length before)) split
      ∙ get_behind before (x ∷ after) 0 (length before) none)

  abbrev InstsSpared : ℕ → List Inst → Type 0
  InstsSpared s [] = Unit {0}
  InstsSpared s (i ∷ is) = (told (value_with s) ≡ spare i) × InstsSpared (s + 1) is

  insts_spared : (before after : List (Option A)) (is : List Inst) (s : ℕ) → spare_rows ≡ before ++ (map spare is ++ after) → count + length before ≡ s
      → InstsSpared s is
  insts_spared before after [] s split start = tt
  insts_spared before after (i ∷ is) s split start =
      let long = length-append before (spare i ∷ []) in
      let next : length (before ++ spare i ∷ []) ≡ length before + 1 = long in (
        spare_there before (map spare is ++ after) (spare i) s split start,
        insts_spared (before ++ spare i ∷ []) after is (s + 1) (split ∙ sym (append_assoc before (spare i ∷ []) (map spare is ++ after))) (omega arith),
      )

  abbrev BlocksSpared : ℕ → List Block → Type 0
  BlocksSpared s [] = Unit {0}
  BlocksSpared s (b ∷ bs) = InstsSpared s b.insts × BlocksSpared (s + length b.insts) bs

  blocks_spared : (before : List (Option A)) (bs : List Block) (s : ℕ) → spare_rows ≡ before ++ flat_map block_spares bs → count + length before ≡ s
      → BlocksSpared s bs
  blocks_spared before [] s split start = tt
  blocks_spared before (b ∷ bs) s split start =
      let long = length-append before (block_spares b) in
      let each : length (block_spares b) ≡ length b.insts = length-map b.insts spare in (
        insts_spared before (flat_map block_spares bs) b.insts s split start,
        blocks_spared (before ++ block_spares b) bs (s + length b.insts) (split ∙ sym (append_assoc before (block_spares b) (flat_map block_spares bs)))
            (omega arith),
      )

  -- ---- both together

  record BlockOwn (b : Block) : Type 0 where
    args : Each (λ a. told a.value ≡ arg a) b.args
    insts : Each (λ i. map told i.results ≡ results i) b.insts
    end : map told b.terminator.results ≡ results b.terminator

  block_own : (k : ℕ) (b : Block) → slice_get f.blocks k ≡ Some b → BlockOwn b
  block_own k b is = record {
    args = args_told k b is;
    insts =
        each_from (λ i. map told i.results ≡ results i) b.insts
        (λ j i at. results_told k j i (record { within = b; is_block = is; is_inst = in_front b.insts (b.terminator ∷ []) j i at }));
    end = results_told k (length b.insts) b.terminator (record { within = b; is_block = is; is_inst = get_last b.insts b.terminator });
  }

  insts_both : (s : ℕ) (is : List Inst) → Each (λ i. map told i.results ≡ results i) is → InstsSpared s is → InstsTold arg results spare told s is
  insts_both s [] own new = tt
  insts_both s (i ∷ is) own new = (record { own = own.0; new = new.0 }, insts_both (s + 1) is own.1 new.1)

  blocks_both : (s : ℕ) (bs : List Block) → Each BlockOwn bs → BlocksSpared s bs → BlocksTold arg results spare told s bs
  blocks_both s [] own new = tt
  blocks_both s (b ∷ bs) own new = (
    record { args = own.0.args; insts = insts_both s b.insts own.0.insts new.0; end = own.0.end },
    blocks_both (s + length b.insts) bs own.1 new.1,
  )

  pub all_told : BlocksTold arg results spare told count f.blocks
  all_told =
      let none : count + 0 ≡ count = omega arith in
      blocks_both count f.blocks (each_from BlockOwn f.blocks block_own) (blocks_spared [] f.blocks count refl none)
