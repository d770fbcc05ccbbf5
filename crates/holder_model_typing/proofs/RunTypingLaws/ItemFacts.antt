-- What items take and define are values of their function.
use Rattle.std.proofs.Common.{◌≡◌, ℕ, suc, ◌+◌, ◌<◌, List, [], ◌∷◌, length, map, refl, ap, subst, arith, Option, Some, None}
use Rattle.std.specs.Prelude.{slice_get}
use Rattle.std.specs.List.{flat_map}
use Rattle.std.proofs.lemmas.List.{length-replicate}
use Rattle.holder_model.specs.Calling.{value_count}
use Rattle.holder_model.specs.sil_cfg_items.Items.{arg_value, item_defined, item_taken, taken_along_in, taken_in}
use Rattle.holder_model.specs.sil_cfg_items.Parts.{args_behind, edge_at, edge_in, inst_at, item_edge, item_inst, results_in, terminator_of}
use Rattle.holder_model.specs.sil_cfg_items.Roles.{consumed, taken_each}
use Rattle.holder_model.specs.sil_cfg_items.declared.taken.Taken.{Taken}
use Rattle.holder_model.specs.sil_cfg_items.declared.taken.Treatment.{Treatment}
use Rattle.holder_model.specs.LoweredRun.LowStepParts.{taken_value, values_taken}
use Rattle.numbered_form.specs.Lists.{Each}
use Rattle.numbered_form.specs.Numbering.{AreCountedFrom, IsEdgeInRange, IsInstInRange, IsValueBelow, defined_in, results_of, values_of}
use Rattle.sil_ast.specs.Blocks.{args_in, args_of}
use Rattle.sil_ast.specs.declared.function.Block.{Block}
use Rattle.sil_ast.specs.declared.place.FuncId.{FuncId}
use Rattle.numbered_form.specs.Insts.{insts_of}
use Rattle.sil_ast.specs.declared.function.Function.{Function}
use Rattle.sil_ast.specs.declared.inst.Edge as edge
use Rattle.sil_ast.specs.declared.inst.Inst as inst
use Rattle.sil_ast.specs.declared.module.Module.{Module}
use Rattle.sil_ast.specs.declared.operands.Operand.{Operand}
use Rattle.sil_ast.specs.declared.place.PointId.{PointId}
use Rattle.sil_ast.specs.declared.place.ValueId.{ValueId}
use Rattle.sil_cfg.specs.declared.item.Item.{Item}
use Rattle.sil_cfg.specs.declared.item.Item.TheVariants.{Entry, Inst, Edge, Exit}
use Rattle.holder_model.specs.sil_types.Typing.Values.{arg_functions, functions_by, result_functions}
use Rattle.numbered_form.proofs.ValueTables.Rows.{rows_count}
use Rattle.holder_model.specs.RunTyping.CallForms.{IsOf, ItemIsOf}
use Rattle.holder_model_typing.proofs.RunTypingLaws.FunctionFacts.{TypedFunction}
use Rattle.holder_model_typing.proofs.RunTypingLaws.Declared.{each_append}
use Rattle.holder_model_typing.proofs.RunTypingLaws.Found.{each_at}
use Rattle.holder_model_typing.proofs.RunTypingLaws.ListFacts.{each_map, each_parts, each_within}

-- as many as its blocks define
pub values_counted : (f : Function) → value_count f ≡ length (values_of f.blocks)
values_counted f = rows_count arg_functions result_functions (λ n xs. length-replicate (length xs) None) (λ i. level i.function i.results) 0 f.blocks
  where
    level : (g : Option FuncId) (vs : List ValueId) → length (functions_by g vs) ≡ length vs
    level g [] = refl
    level g (v ∷ vs) = ap suc (length-replicate (length vs) None)

numbers_below : (n : ℕ) (vs : List ValueId) → AreCountedFrom n vs → Each (λ v. v.0 < n + length vs) vs
numbers_below n [] h = tt
numbers_below n (v ∷ vs) h =
    let first : v.0 ≡ n = h.0 in
    let same : (n + 1) + length vs ≡ n + suc (length vs) = omega arith in
    (omega arith, subst (λ k. Each (λ w. w.0 < k) vs) same (numbers_below (n + 1) vs h.1))

-- operands

abbrev IsTakenOf : Function → Taken → Type 0
IsTakenOf f t = IsOf f t.value

module _ (f : Function) where
  below : (o : Operand) → IsValueBelow (length (values_of f.blocks)) o → IsOf f o.value
  below o lt = let count = values_counted f in omega (arith, count, lt)

  taken_of : (os : List Operand) (ts : List Treatment) → Each (IsValueBelow (length (values_of f.blocks))) os → Each (IsTakenOf f) (taken_each os ts)
  taken_of [] ts h = tt
  taken_of (o ∷ os) [] h = tt
  taken_of (o ∷ os) (t ∷ ts) h = (below o h.0, taken_of os ts h.1)

  along_of : (os : List Operand) → Each (IsValueBelow (length (values_of f.blocks))) os → Each (IsTakenOf f) (map consumed os)
  along_of [] h = tt
  along_of (o ∷ os) h = (below o h.0, along_of os h.1)

module _ (m : Module) (f : Function) (typed : TypedFunction m f) where
  abbrev InRange : inst.Inst → Type 0
  InRange i = IsInstInRange (length (values_of f.blocks)) (length f.blocks) (length m.functions) i

  taken_in_of : (o : Option inst.Inst) → ((i : inst.Inst) → o ≡ Some i → InRange i) → Each (IsTakenOf f) (taken_in o)
  taken_in_of None h = tt
  taken_in_of (Some i) h = taken_of f i.operands _ (h i refl).operands

  along_in_of : (o : Option inst.Inst) (k : ℕ) → ((i : inst.Inst) → o ≡ Some i → InRange i) → Each (IsTakenOf f) (taken_along_in (edge_in o k))
  along_in_of None k h = tt
  along_in_of (Some i) k h = at (slice_get i.edges k) refl
    where
      at : (e : Option edge.Edge) → slice_get i.edges k ≡ e → Each (IsTakenOf f) (taken_along_in e)
      at None is = tt
      at (Some e) is = along_of f e.args (each_at (IsEdgeInRange (length (values_of f.blocks)) (length f.blocks)) i.edges k e (h i refl).edges is).args

  inst_range : (item : Item) (i : inst.Inst) → item_inst f item ≡ Some i → InRange i
  inst_range Entry i e = cc
  inst_range (Inst p) i e = (typed.insts p.block.0 p.index i (typed.inside p i e).1).range
  inst_range (Edge x) i e = let at = typed.ends x.block.0 i e in (typed.insts x.block.0 at.0 i at.2).range
  inst_range (Exit p) i e = let at = typed.ends p.block.0 i e in (typed.insts p.block.0 at.0 i at.2).range

  along_range : (item : Item) → Each (IsTakenOf f) (taken_along_in (item_edge f item))
  along_range Entry = tt
  along_range (Inst p) = tt
  along_range (Edge x) = along_in_of (terminator_of f x.block.0) x.index (inst_range (Edge x))
  along_range (Exit p) = tt

  all_taken : (item : Item) → Each (IsOf f) (values_taken f item)
  all_taken item =
      each_map taken_value (IsTakenOf f) (IsOf f) (λ t h. h) (item_taken f item)
      (each_append (IsTakenOf f) (taken_in (item_inst f item)) (taken_along_in (item_edge f item)) (taken_in_of (item_inst f item) (inst_range item)) (along_range item))

  -- arguments and results

  all_values : Each (IsOf f) (values_of f.blocks)
  all_values =
      let count : 0 + length (values_of f.blocks) ≡ value_count f = let same = values_counted f in omega (arith, same) in
      subst (λ n. Each (λ v. v.0 < n) (values_of f.blocks)) count (numbers_below 0 (values_of f.blocks) typed.numbered.values)

  of_block : (b : ℕ) (block : Block) → slice_get f.blocks b ≡ Some block → Each (IsOf f) (map arg_value block.args) × Each (IsOf f) (flat_map results_of (insts_of block))
  of_block b block is = each_parts (IsOf f) (map arg_value block.args) (flat_map results_of (insts_of block)) (each_within defined_in (IsOf f) f.blocks b block all_values is)

  args_of_block : (b : ℕ) → Each (IsOf f) (map arg_value (args_of f b))
  args_of_block b = at (slice_get f.blocks b) refl
    where
      at : (o : Option Block) → slice_get f.blocks b ≡ o → Each (IsOf f) (map arg_value (args_in o))
      at None is = tt
      at (Some block) is = (of_block b block is).0

  results_at : (p : PointId) (o : Option inst.Inst) → inst_at f p ≡ o → Each (IsOf f) (results_in o)
  results_at p None e = tt
  results_at p (Some i) e =
      let at = (typed.inside p i e).1 in
      each_within results_of (IsOf f) (insts_of at.within) p.index i (of_block p.block.0 at.within at.is_block).1 at.is_inst

  args_along : (o : Option edge.Edge) → Each (IsOf f) (map arg_value (args_behind f o))
  args_along None = tt
  args_along (Some e) = args_of_block e.block.0

  all_defined : (item : Item) → Each (IsOf f) (item_defined f item)
  all_defined Entry = args_of_block 0
  all_defined (Inst p) = each_append (IsOf f) (results_in (inst_at f p)) [] (results_at p (inst_at f p) refl) tt
  all_defined (Edge x) = args_along (edge_at f x)
  all_defined (Exit p) = tt

  pub item_is_of : (item : Item) → ItemIsOf f item
  item_is_of item = record { taken = all_taken item; defined = all_defined item }
