-- What the values that an item makes are to memory: by the row of its instruction, or as arguments.
use Rattle.std.proofs.Common.{◌≡◌, ◌⊎◌, inl, inr, ℕ, zero, suc, List, [], ◌∷◌, map, refl, sym, ap, ◌∙◌, subst, Option, Some, None}
use Rattle.std.specs.Prelude.{Contains, slice_get}
use Rattle.std.proofs.lemmas.List.Elements.{Contains-append_cases}
use Rattle.sil_verifier_values.specs.memory_rules_accesses.Sources.{result_source, source_at, sources_of}
use Rattle.sil_verifier_values.specs.inner.Known.{IsAcceptedBody}
use Rattle.sil_verifier_values.specs.inner.Rows.{source_of_argument}
use Rattle.sil_verifier_values.proofs.Counted.{nothing_in, stands}
use Rattle.sil_verifier_values.proofs.TableRows.{argument_rows, result_rows}
use Rattle.sil_cfg_items.specs.Items.{arg_value, item_defined}
use Rattle.sil_cfg_items.specs.Parts.{args_behind, edge_at, inst_at, item_inst, results_in}
use Rattle.numbered_form.specs.Lists.{Each}
use Rattle.sil_ast.specs.Blocks.{args_of}
use Rattle.sil_ast.specs.declared.function.BlockArg.{BlockArg}
use Rattle.sil_ast.specs.declared.function.Function.{Function}
use Rattle.sil_ast.specs.declared.inst.Edge.{Edge}
use Rattle.sil_ast.specs.declared.inst.Inst.{Inst}
use Rattle.sil_ast.specs.declared.module.Module.{Module}
use Rattle.sil_ast.specs.declared.place.PointId.{PointId}
use Rattle.sil_ast.specs.declared.place.ValueId.{ValueId}
use Rattle.sil_cfg.specs.declared.item.Item.{Item}
use Rattle.sil_cfg.specs.declared.item.Item.TheVariants as item
use Rattle.sil_verifier_values.specs.sil_types_declarations.TypeDefinitions.Declarations.{Declarations, declarations_of}
use Rattle.sil_verifier_trails.proofs.AcceptedPlaces.Items.{each_contained}
use Rattle.sil_verifier_trails.proofs.AcceptedPlaces.OperationsRight.{stands_somewhere}

pub argument_there : (xs : List BlockArg) (k : ℕ) (w : ValueId) → slice_get (map arg_value xs) k ≡ Some w → (x : BlockArg) × (slice_get xs k ≡ Some x) × (x.value ≡ w)
argument_there [] k w e = cc
argument_there (x ∷ xs) zero w e = (x, refl, cc)
argument_there (x ∷ xs) (suc k) w e = argument_there xs k w e

-- a result of the item's instruction, or an argument of a block
pub data IsMadeBy (d : Declarations) (f : Function) (i : Item) (v : ValueId) : Type 0 where
  result : (x : Inst) → item_inst f i ≡ Some x → source_at (sources_of d f) v ≡ result_source d x → IsMadeBy d f i v
  argument : (b k : ℕ) → source_at (sources_of d f) v ≡ source_of_argument d f b k → IsMadeBy d f i v

module _ (m : Module) (n : ℕ) (f : Function) (a : IsAcceptedBody m n f) where
  abbrev d : Declarations
  d = declarations_of m

  of_argument : (i : Item) (b : ℕ) (v : ValueId) → Contains (map arg_value (args_of f b)) v → IsMadeBy d f i v
  of_argument i b v c =
      let s = stands (map arg_value (args_of f b)) v c in
      let x = argument_there (args_of f b) s.0 v s.1 in
      argument b s.0 (ap (source_at (sources_of d f)) (sym x.2) ∙ (argument_rows m n f a b s.0 x.0 x.1).source)

  of_edge : (i : Item) (o : Option Edge) (v : ValueId) → Contains (map arg_value (args_behind f o)) v → IsMadeBy d f i v
  of_edge i None v c = absurd (nothing_in v c)
  of_edge i (Some e) v c = of_argument i e.block.0 v c

  of_inst : (i : Item) (o : Option Inst) → item_inst f i ≡ o → (v : ValueId) → Contains (results_in o) v → IsMadeBy d f i v
  of_inst i None is v c = absurd (nothing_in v c)
  of_inst i (Some x) is v c =
      let at = stands_somewhere f i x is in
      let s = stands x.results v c in
      result x is (result_rows m n f a at.0 at.1 s.0 x v at.2 s.1).source

  of_either : (i : Item) (v : ValueId) (xs ys : List ValueId) → (Contains xs v → IsMadeBy d f i v) → (Contains ys v → IsMadeBy d f i v)
      → Contains xs v ⊎ Contains ys v → IsMadeBy d f i v
  of_either i v xs ys one other (inl c) = one c
  of_either i v xs ys one other (inr c) = other c

  pub made_so : (i : Item) (v : ValueId) → Contains (item_defined f i) v → IsMadeBy d f i v
  made_so item.Entry v c = of_argument item.Entry 0 v c
  made_so (item.Inst p) v c =
      of_either (item.Inst p) v (results_in (inst_at f p)) [] (of_inst (item.Inst p) (inst_at f p) refl v) (λ c. absurd (nothing_in v c))
      (Contains-append_cases (results_in (inst_at f p)) [] v c)
  made_so (item.Edge e) v c = of_edge (item.Edge e) (edge_at f e) v c
  made_so (item.Exit p) v c = absurd (nothing_in v c)

  -- each result of an instruction has the source of its row
  pub results_so : (p : PointId) (x : Inst) → inst_at f p ≡ Some x → Each (λ v. source_at (sources_of d f) v ≡ result_source d x) (item_defined f (item.Inst p))
  results_so p x is =
      each_contained (λ v. source_at (sources_of d f) v ≡ result_source d x) (item_defined f (item.Inst p))
      (λ v c. by v (Contains-append_cases (results_in (inst_at f p)) [] v c))
    where
      one : (v : ValueId) → Contains (results_in (inst_at f p)) v → source_at (sources_of d f) v ≡ result_source d x
      one v c =
          let at = stands_somewhere f (item.Inst p) x is in
          let s = stands x.results v (subst (λ o. Contains (results_in o) v) is c) in
          (result_rows m n f a at.0 at.1 s.0 x v at.2 s.1).source

      by : (v : ValueId) → Contains (results_in (inst_at f p)) v ⊎ Contains [] v → source_at (sources_of d f) v ≡ result_source d x
      by v (inl c) = one v c
      by v (inr c) = absurd (nothing_in v c)
