-- What a run is told of the module in which a copy is lent: shapes and functions are those of the module, and facts but for the one function's.
use Rattle.std.proofs.Common.{◌≡◌, ℕ, zero, suc, List, [], ◌∷◌, length, map, refl, sym, ap, ◌∙◌, Bool, true, false, cond, Option, Some, None}
use Rattle.std.specs.Prelude.{◌==◌, option_map, slice_get, unwrap_or}
use Rattle.std.specs.List.{flat_map, range_with_len}
use Rattle.std.proofs.lemmas.Bool.{eq-eqb, eqb-true}
use Rattle.std.proofs.lemmas.Option.{same_Some, slice_get-map}
use Rattle.ownership_kinds_chains.specs.declared.ownership_chains.facts.Facts.{Facts}
use Rattle.sil_ast.specs.declared.function.Block.{Block}
use Rattle.sil_ast.specs.declared.function.Function.{Function}
use Rattle.sil_ast.specs.declared.inst.Inst.{Inst}
use Rattle.sil_ast.specs.declared.module.Module.{Module}
use Rattle.sil_ast.specs.declared.place.FuncId.{FuncId}
use Rattle.sil_ast.specs.declared.place.ValueId.{ValueId}
use Rattle.sil_types_declarations.specs.TypeDefinitions.Declarations.{Declarations, declarations_of}
use Rattle.holder_model_laws.specs.ownership_kinds_origins.Facts.{facts_in}
use Rattle.sil_types.specs.Typing.RowTypes.{given_by}
use Rattle.sil_types.specs.Typing.Values.{arg_functions, arg_types, result_functions, result_types}
use Rattle.copy_pairing_acceptance.specs.copy_pairing_model.Rewritten.{changed_at, lent, lent_block, lent_inst, with_function}
use Rattle.holder_model_laws.specs.holder_model.Calling.{value_count}
use Rattle.holder_model_laws.specs.holder_model.Dropping.{deinits_of}
use Rattle.holder_model_laws.specs.holder_model.Frames.{has_any}
use Rattle.holder_model_laws.specs.holder_model.ModuleFacts.{facts_of, facts_told, function_facts}
use Rattle.holder_model_laws.specs.holder_model.ModuleShapes.{class_shape, function_shapes, shapes_by, value_shape}
use Rattle.holder_model_laws.specs.LockstepRuns.inner.Parts.{HasFunctions}
use Rattle.holder_model_laws.proofs.LockstepRuns.Unchanged.{told_of}
use Rattle.copy_pairing_acceptance.proofs.LentFunctions.Insts.{Becomes, becomes, borrows, ends, part_kept, stays}
use Rattle.copy_pairing_acceptance.proofs.LentFunctions.Rows.{rows_same}
use Rattle.sil_verifier_runs.proofs.sil_verifier_values.Facts.{run_facts}

-- ---- lists of which one element is changed

module _ {A : Type 0} (change : A → A) where
  pub changed_here : (n : ℕ) (xs : List A) → slice_get (changed_at n change xs) n ≡ option_map change (slice_get xs n)
  changed_here n [] = refl
  changed_here zero (x ∷ xs) = refl
  changed_here (suc n) (x ∷ xs) = changed_here n xs

  pub changed_apart : (n k : ℕ) (xs : List A) → (k ≡ n → ⊥) → slice_get (changed_at n change xs) k ≡ slice_get xs k
  changed_apart n k [] other = refl
  changed_apart zero zero (x ∷ xs) other = absurd (other refl)
  changed_apart zero (suc k) (x ∷ xs) other = refl
  changed_apart (suc n) zero (x ∷ xs) other = refl
  changed_apart (suc n) (suc k) (x ∷ xs) other = changed_apart n k xs (λ same. other (ap suc same))

  changed_same : {B : Type 0} (part : A → B) → ((x : A) → part (change x) ≡ part x) → (n : ℕ) (xs : List A)
      → map part (changed_at n change xs) ≡ map part xs
  changed_same part kept n [] = refl
  changed_same part kept zero (x ∷ xs) = ap (λ y. y ∷ map part xs) (kept x)
  changed_same part kept (suc n) (x ∷ xs) = ap (λ ys. part x ∷ ys) (changed_same part kept n xs)

-- ---- the function in which it is lent

module _ (c : ValueId) where
  types_by : (d : Declarations) (i j : Inst) → Becomes c i j → result_types d j ≡ result_types d i
  types_by d i _ (borrows e m) = ap (λ o. map (slice_get (unwrap_or (given_by o d i) [])) (range_with_len 0 (length i.results))) (sym e)
  types_by d i _ (ends e m) = ap (λ o. map (slice_get (unwrap_or (given_by o d i) [])) (range_with_len 0 (length i.results))) (sym e)
  types_by d i _ (stays e m) = refl

  shapes_lent : (d : Declarations) (f : Function) → function_shapes d (lent c f) ≡ function_shapes d f
  shapes_lent d f = ap (map (value_shape d)) (rows_same c arg_types (result_types d) (λ i. types_by d i (lent_inst c i) (becomes c i)) f)

  pub count_lent : (f : Function) → value_count (lent c f) ≡ value_count f
  count_lent f = ap (λ xs. length xs) (rows_same c arg_functions result_functions (part_kept result_functions (λ o i. refl) c) f)

  any_lent : (bs : List Block) → has_any (map (lent_block c) bs) ≡ has_any bs
  any_lent [] = refl
  any_lent (b ∷ bs) = refl

-- ---- the module

module _ (m : Module) (n : ℕ) (c : ValueId) (declarations : declarations_of (with_function n (lent c) m) ≡ declarations_of m) where
  abbrev m' : Module
  m' = with_function n (lent c) m

  abbrev d : Declarations
  d = declarations_of m

  pub same_shapes : (facts_of m').shapes ≡ (facts_of m).shapes
  same_shapes =
      ap (λ k. shapes_by k m') declarations
      ∙ ap (λ fs. record { functions = fs; classes = flat_map (class_shape d) d.decls }) (changed_same (lent c) (function_shapes d) (shapes_lent c d) n m.functions)

  -- what stands for a function
  abbrev pub stand_in : FuncId → Function → Function
  stand_in g f = cond (g.0 == n) (lent c f) f

  pub stands_in : (g : FuncId) → slice_get m'.functions g.0 ≡ option_map (stand_in g) (slice_get m.functions g.0)
  stands_in g = by (g.0 == n) refl
    where
      same : (o : Option Function) → o ≡ option_map (λ f. f) o
      same None = refl
      same (Some f) = refl

      by : (b : Bool) → (g.0 == n) ≡ b → slice_get m'.functions g.0 ≡ option_map (λ f. cond b (lent c f) f) (slice_get m.functions g.0)
      by true e =
          let is : g.0 ≡ n = eqb-true g.0 n e in
          ap (slice_get m'.functions) is ∙ (changed_here (lent c) n m.functions ∙ ap (λ k. option_map (lent c) (slice_get m.functions k)) (sym is))
      by false e =
          changed_apart (lent c) n g.0 m.functions (λ is. let wrong : true ≡ false = sym (eq-eqb g.0 n is) ∙ e in cc) ∙ same (slice_get m.functions g.0)

  came : {A B : Type 0} (h : A → B) (o : Option A) (y : B) → option_map h o ≡ Some y → (x : A) × (o ≡ Some x) × (h x ≡ y)
  came h None y e = absurd (let wrong : None ≡ Some y = e in cc)
  came h (Some x) y e = (x, refl, same_Some (h x) y e)

  pub is_stand_in : (g : FuncId) (f f' : Function) → slice_get m.functions g.0 ≡ Some f → slice_get m'.functions g.0 ≡ Some f' → f' ≡ stand_in g f
  is_stand_in g f f' there there' = same_Some f' (stand_in g f) (sym there' ∙ (stands_in g ∙ ap (option_map (stand_in g)) there))

  pub has_functions : HasFunctions m m'
  has_functions = record {
    function = λ g f there. (stand_in g f, stands_in g ∙ ap (option_map (stand_in g)) there);
    back = λ g f' there'. let z = came (stand_in g) (slice_get m.functions g.0) f' (sym (stands_in g) ∙ there') in (z.0, z.1);
    stands = λ g f f' there there'.
        let is = is_stand_in g f f' there there' in
        record {
          bodied = ap (λ (k : Function). has_any k.blocks) is ∙ bodied f (g.0 == n);
          signature = ap (λ (k : Function). k.signature) is ∙ signature f (g.0 == n);
        };
    deinits = λ class. ap (λ k. deinits_of k class) declarations;
  }
    where
      bodied : (f : Function) (b : Bool) → has_any (cond b (lent c f) f).blocks ≡ has_any f.blocks
      bodied f true = any_lent c f.blocks
      bodied f false = refl

      signature : (f : Function) (b : Bool) → (cond b (lent c f) f).signature ≡ f.signature
      signature f true = refl
      signature f false = refl

  -- ---- facts

  pub other_told : (g : FuncId) → (g.0 ≡ n → ⊥) → told_of (facts_of m') g ≡ told_of (facts_of m) g
  other_told g other =
      ap (λ k. unwrap_or (slice_get (map (function_facts k) m'.functions) g.0) []) declarations
      ∙ ap (λ (o : Option (List (Option Facts))). unwrap_or o [])
      (slice_get-map (function_facts d) m'.functions g.0
      ∙ (ap (option_map (function_facts d)) (changed_apart (lent c) n g.0 m.functions other) ∙ sym (slice_get-map (function_facts d) m.functions g.0)))

  pub lent_told : (g : FuncId) (f : Function) → slice_get m'.functions g.0 ≡ Some (lent c f) → facts_told (facts_of m') g ≡ facts_in d (lent c f)
  lent_told g f there = run_facts m' g (lent c f) there ∙ ap (λ k. facts_in k (lent c f)) declarations
