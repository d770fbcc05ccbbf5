-- Items of the function in which the copy is lent: where they stand, what they take and what they carry; and which take the copy without ending it.
use Rattle.std.proofs.Common.{◌≡◌, ℕ, List, [], ◌∷◌, ◌++◌, drop, length, refl, ap, ap₂, ◌∙◌, false, Option, Some, None}
use Rattle.std.specs.Prelude.{◌&&◌, option_and_then, option_map, slice_get}
use Rattle.std.specs.List.{flat_map}
use Rattle.instruction_table.specs.Forms.{ending_of}
use Rattle.instruction_table.specs.declared.entries.Ending.{Ending}
use Rattle.instruction_table.specs.declared.entries.Ending.TheVariants as ending
use Rattle.instruction_table.specs.declared.op.Op.TheVariants as op
use Rattle.sil_cfg_items.specs.Items.{item_taken, taken_along_in, taken_in}
use Rattle.sil_cfg_items.specs.Parts.{edge_at, edge_in, inst_at, terminator_of}
use Rattle.sil_cfg_items.specs.Roles.{taken_along, taken_by}
use Rattle.sil_cfg_items.specs.declared.taken.Taken.{Taken}
use Rattle.numbered_form.specs.Lists.{Each}
use Rattle.sil_ast.specs.declared.function.Function.{Function}
use Rattle.sil_ast.specs.declared.inst.Edge as edge
use Rattle.sil_ast.specs.declared.inst.Inst as inst
use Rattle.sil_ast.specs.declared.place.EdgeId.{EdgeId}
use Rattle.sil_ast.specs.declared.place.PointId.{PointId}
use Rattle.sil_ast.specs.declared.place.ValueId.{ValueId}
use Rattle.sil_cfg.specs.declared.item.Item.{Item}
use Rattle.sil_cfg.specs.declared.item.Item.TheVariants as item
use Rattle.sil_types_declarations.specs.TypeDefinitions.Declarations.{Declarations}
use Rattle.copy_pairing_acceptance.specs.copy_pairing_model.Copies.{is_op}
use Rattle.copy_pairing_acceptance.specs.copy_pairing_model.Rewritten.{lent, takes}
use Rattle.holder_model_laws.specs.holder_model.Data.{Datum}
use Rattle.holder_model_laws.specs.holder_model.Edges.{carried_along, carried_by, first_value_of, switched_data}
use Rattle.holder_model_laws.specs.holder_model.Standing.{behind, first_point, stands_at, target_of}
use Rattle.copy_pairing_acceptance.proofs.LentFunctions.Graph.{args_lent}
use Rattle.copy_pairing_acceptance.proofs.LentFunctions.Lists.{each_append, each_behind, each_front, each_got, each_unflat}
use Rattle.copy_pairing_acceptance.proofs.LentFunctions.Marks.{end_calm, ends_at, stands}
use Rattle.copy_pairing_acceptance.proofs.LentFunctions.Parts.{edge_lent, operands_lent, terminator_lent}
use Rattle.copy_pairing_acceptance.proofs.LentFunctions.Ready.{Ready}
use Rattle.copy_pairing_acceptance.proofs.LentFunctions.Roles.{IsGentle, gentle_at}

module _ (c : ValueId) (f : Function) where
  -- ---- where frames stand

  behind_lent : (i : Item) → behind (lent c f) i ≡ behind f i
  behind_lent item.Entry = refl
  behind_lent (item.Inst p) = refl
  behind_lent (item.Edge e) = ap (λ o. first_point (target_of o)) (edge_lent c f e)
  behind_lent (item.Exit p) = refl

  pub stands_lent : (trail : List Item) → stands_at (lent c f) trail ≡ stands_at f trail
  stands_lent [] = refl
  stands_lent (i ∷ trail) = behind_lent i

  -- ---- what is taken

  pub inst_taken : (q : PointId) (i : inst.Inst) → inst_at f q ≡ Some i → item_taken f (item.Inst q) ≡ taken_by i ++ []
  inst_taken q i at = ap (λ o. taken_in o ++ []) at

  pub edge_taken : (e : EdgeId) → item_taken (lent c f) (item.Edge e) ≡ item_taken f (item.Edge e)
  edge_taken e = ap₂ (λ a b. taken_in a ++ taken_along_in b) (terminator_lent c f e.block.0) (edge_lent c f e)

  pub exit_taken : (q : PointId) → item_taken (lent c f) (item.Exit q) ≡ item_taken f (item.Exit q)
  exit_taken q = ap (λ a. taken_in a ++ []) (terminator_lent c f q.block.0)

  -- ---- what is carried

  carried_same : (x : Ending) (e : EdgeId) (taken : edge.Edge) (xs : List Datum) → carried_by x (lent c f) e taken xs ≡ carried_by x f e taken xs
  carried_same ending.Inside e taken xs = refl
  carried_same ending.OneBranch e taken xs = ap (λ os. Some (drop (length os) xs)) (operands_lent c f (item.Edge e))
  carried_same ending.TwoBranches e taken xs = ap (λ os. Some (drop (length os) xs)) (operands_lent c f (item.Edge e))
  carried_same ending.Cases e taken xs = ap (λ args. option_map (switched_data taken (length args)) (first_value_of xs)) (args_lent c f taken.block.0)
  carried_same ending.Return e taken xs = refl
  carried_same ending.Unreachable e taken xs = refl

  pub carried_lent : (e : EdgeId) (xs : List Datum) → carried_along (lent c f) e xs ≡ carried_along f e xs
  carried_lent e xs =
      ap₂ (λ t o. option_and_then (λ (i : inst.Inst). option_and_then (λ taken. carried_by (ending_of i.op) (lent c f) e taken xs) o) t)
      (terminator_lent c f e.block.0) (edge_lent c f e)
      ∙ of_terminator (terminator_of f e.block.0)
    where
      of_edge : (x : Ending) (o : Option edge.Edge)
          → option_and_then (λ taken. carried_by x (lent c f) e taken xs) o ≡ option_and_then (λ taken. carried_by x f e taken xs) o
      of_edge x None = refl
      of_edge x (Some taken) = carried_same x e taken xs

      of_terminator : (t : Option inst.Inst)
          → option_and_then (λ (i : inst.Inst). option_and_then (λ taken. carried_by (ending_of i.op) (lent c f) e taken xs) (edge_at f e)) t
          ≡ option_and_then (λ (i : inst.Inst). option_and_then (λ taken. carried_by (ending_of i.op) f e taken xs) (edge_at f e)) t
      of_terminator None = refl
      of_terminator (Some i) = of_edge (ending_of i.op) (edge_at f e)

module _ (d : Declarations) (f : Function) (p : PointId) (c v : ValueId) (r : Ready d f p c v) where
  abbrev Gentle : Taken → Type 0
  Gentle = IsGentle d f p c v r

  -- ---- items that don't end the copy

  pub inst_gentle : (q : PointId) (i : inst.Inst) → inst_at f q ≡ Some i → (is_op op.DestroyValue i && takes c i) ≡ false → Each Gentle (taken_by i ++ [])
  inst_gentle q i at calm =
      each_append Gentle (taken_by i) []
      (each_front Gentle (taken_by i) (flat_map taken_along i.edges) (gentle_at d f p c v r q.block.0 q.index i (stands d f p c v r q i at) calm)) tt

  terminator_gentle : (n : ℕ) (t : inst.Inst) → terminator_of f n ≡ Some t → Each Gentle (taken_by t) × Each Gentle (flat_map taken_along t.edges)
  terminator_gentle n t e =
      let at = ends_at d f p c v r n t e in
      let all = gentle_at d f p c v r n at.0 t at.1 (end_calm d f p c v r t (r.formed.ends n t e).ends) in
      (each_front Gentle (taken_by t) (flat_map taken_along t.edges) all, each_behind Gentle (taken_by t) (flat_map taken_along t.edges) all)

  own_gentle : (n : ℕ) (o : Option inst.Inst) → terminator_of f n ≡ o → Each Gentle (taken_in o)
  own_gentle n None e = tt
  own_gentle n (Some t) e = (terminator_gentle n t e).0

  along_gentle : (n k : ℕ) (o : Option inst.Inst) → terminator_of f n ≡ o → Each Gentle (taken_along_in (edge_in o k))
  along_gentle n k None e = tt
  along_gentle n k (Some t) e = at (slice_get t.edges k) refl
    where
      at : (o : Option edge.Edge) → slice_get t.edges k ≡ o → Each Gentle (taken_along_in o)
      at None is = tt
      at (Some x) is =
          each_got (λ y. Each Gentle (taken_along y)) t.edges k x (each_unflat Gentle taken_along t.edges (terminator_gentle n t e).1) is

  pub edge_gentle : (e : EdgeId) → Each Gentle (item_taken f (item.Edge e))
  edge_gentle e =
      each_append Gentle (taken_in (terminator_of f e.block.0)) (taken_along_in (edge_at f e)) (own_gentle e.block.0 (terminator_of f e.block.0) refl)
      (along_gentle e.block.0 e.index (terminator_of f e.block.0) refl)

  pub exit_gentle : (q : PointId) → Each Gentle (item_taken f (item.Exit q))
  exit_gentle q = each_append Gentle (taken_in (terminator_of f q.block.0)) [] (own_gentle q.block.0 (terminator_of f q.block.0) refl) tt
