-- A function that is the same in both modules, and whose frames are alike where they are the same, does alike.
use Rattle.std.proofs.Common.{◌≡◌, ℕ, arith, List, [], ◌∷◌, refl, sym, ap, ◌∙◌, subst, Option, Some, None}
use Rattle.std.specs.Prelude.{slice_get, unwrap_or}
use Rattle.sil_ast.specs.declared.function.Function.{Function}
use Rattle.sil_ast.specs.declared.inst.Inst.{Inst}
use Rattle.sil_ast.specs.declared.module.Module.{Module}
use Rattle.sil_ast.specs.declared.place.EdgeId.{EdgeId}
use Rattle.sil_ast.specs.declared.place.FuncId.{FuncId}
use Rattle.sil_cfg.specs.declared.item.Item.{Item}
use Rattle.sil_cfg.specs.declared.item.Item.TheVariants as item
use Rattle.sil_cfg_items.specs.Items.{item_defined, item_taken}
use Rattle.sil_cfg_items.specs.Parts.{inst_at, terminator_of}
use Rattle.memory_rules_parts.specs.ownership_kinds_chains.OwnershipChains.Facts.{told_at}
use Rattle.memory_rules_parts.specs.ownership_kinds_chains.declared.ownership_chains.facts.Facts.{Facts}
use Rattle.sil_types_declarations.specs.TypeDefinitions.Declarations.{declarations_of}
use Rattle.holder_model.specs.holder_model_values.RunValues.Memory.{Memory}
use Rattle.holder_model.specs.Calling.{value_count}
use Rattle.holder_model.specs.Data.{Datum}
use Rattle.holder_model.specs.Edges.{edge_of}
use Rattle.holder_model.specs.Effects as effects
use Rattle.holder_model.specs.Effects.{Effect}
use Rattle.holder_model.specs.Faults.{HolderFault}
use Rattle.holder_model.specs.Frames.{Entry, Frame, no_entries, operands_of, results_put}
use Rattle.holder_model.specs.HolderStates.{HolderState}
use Rattle.holder_model.specs.MemoryEffects.{effect}
use Rattle.holder_model.specs.ModuleFacts.{ModuleFacts}
use Rattle.holder_model.specs.ModuleShapes.{shapes_in}
use Rattle.holder_model.specs.Standing.{stands_at}
use Rattle.holder_model.specs.States.{Task}
use Rattle.holder_model_laws.specs.LockstepRuns.inner.Frames.{AreDropsAlike, AreEdgesAlike, AreEffectsAlike, AreEndsAlike, AreInstsAlike, DoAlike, does, takes}
use Rattle.holder_model_laws.specs.LockstepRuns.inner.Lockstep.{ArePutAlike}
use Rattle.holder_model_laws.specs.LockstepRuns.inner.Parts.{call_at, puts}

-- what is told of the values of a function
abbrev pub told_of : ModuleFacts → FuncId → List (Option Facts)
told_of told g = unwrap_or (slice_get told.facts g.0) []

module _ (m m' : Module) (told told' : ModuleFacts) (bound : ℕ) (First Second : HolderState → Type 0)
    (Like : FuncId → List Item → List Entry → List Item → List Entry → Type 0) (Alone : FuncId → List Item → Type 0)
    (declarations : declarations_of m' ≡ declarations_of m) (shapes : told'.shapes ≡ told.shapes)
    (g : FuncId) (f : Function) (facts : told_of told' g ≡ told_of told g)
    (same : (trail trail' : List Item) (entries entries' : List Entry) → Like g trail entries trail' entries' → (trail' ≡ trail) × (entries' ≡ entries))
    (alike : (trail : List Item) (entries : List Entry) → Like g trail entries trail entries) where
  puts_same : (i : Item) (xs : List Datum) (entries : List Entry) → puts told' g f i xs entries ≡ puts told g f i xs entries
  puts_same i xs entries = ap (λ told. results_put (told_at told) (item_defined f i) xs entries) facts

  put_alike : (trail : List Item) (i : Item) (xs : List Datum) (entries : List Entry)
      → ArePutAlike Like g trail trail (puts told g f i xs entries) (puts told' g f i xs entries)
  put_alike trail i xs entries es is = (es, puts_same i xs entries ∙ is, alike trail es)

  takes_same : (i : Item) (memory memory' : Memory) (entries : List Entry) → memory' ≡ memory
      → takes told' g f i memory' entries ≡ takes told g f i memory entries
  takes_same i memory memory' entries e =
      ap (λ y. takes told' g f i y entries) e ∙ ap (λ told. operands_of (told_at told) memory entries (item_taken f i)) facts

  does_same : (memory memory' : Memory) (i : Inst) (xs : List Datum) → memory' ≡ memory → does m' told' g memory' i xs ≡ does m told g memory i xs
  does_same memory memory' i xs e =
      ap (λ y. does m' told' g y i xs) e ∙ (ap (λ d. effect d told'.shapes (shapes_in told'.shapes g) memory i xs) declarations
      ∙ ap (λ s. effect (declarations_of m) s (shapes_in s g) memory i xs) shapes)

  -- an effect is alike to itself
  effect_alike : (trail : List Item) (i : Item) (left : List Entry) (rest : List (Task Frame)) (e : Effect HolderFault)
      → AreEffectsAlike m m' told told' bound First Second Like Alone g f f trail trail i i left left rest e e
  effect_alike trail i left rest (effects.Makes c) = record {
    memory = refl;
    slots = refl;
    retained = omega arith;
    dropped = AreDropsAlike.both refl;
    put = put_alike (i ∷ trail) i c.results left;
  }
  effect_alike trail i left rest (effects.Calls k args) = record {
    callee = refl;
    given = refl;
    lent = refl;
    waits = alike trail left;
    out = put_alike (i ∷ trail) i _ left;
  }
  effect_alike trail i left rest (effects.Traps t) = refl
  effect_alike trail i left rest (effects.Faults x) = tt
  effect_alike trail i left rest effects.Unfit = tt

  module _ (h r : HolderState) (memory : r.memory ≡ h.memory) (trail : List Item) (entries : List Entry) (rest : List (Task Frame)) where
    inst_alike : (i : Inst) → inst_at f (stands_at f trail) ≡ Some i
        → AreInstsAlike m m' told told' bound First Second Like Alone g f f h r trail trail entries entries rest i
    inst_alike i at = record {
      other = i;
      stands = at;
      taken = λ ops is. (
        ops,
        takes_same (item.Inst (stands_at f trail)) h.memory r.memory entries memory ∙ is,
        subst (λ e. AreEffectsAlike m m' told told' bound First Second Like Alone g f f trail trail (item.Inst (stands_at f trail)) (item.Inst (stands_at f trail))
            ops.left ops.left rest (does m told g h.memory i ops.given) e) (sym (does_same h.memory r.memory i ops.given memory))
            (effect_alike trail (item.Inst (stands_at f trail)) ops.left rest (does m told g h.memory i ops.given)),
      );
    }

    edge_alike : (e : EdgeId) → AreEdgesAlike m m' told told' bound First Second Like Alone g f f h r trail trail entries entries rest e e
    edge_alike e ops carried is some = record {
      other = ops;
      taken = takes_same (item.Edge e) h.memory r.memory entries memory ∙ is;
      carries = some;
      put = put_alike (item.Edge e ∷ trail) (item.Edge e) carried ops.left;
    }

    end_alike : (i : Inst) → inst_at f (stands_at f trail) ≡ None → terminator_of f (stands_at f trail).block.0 ≡ Some i
        → AreEndsAlike m m' told told' bound First Second Like Alone g f f h r trail trail entries entries rest i
    end_alike i at ends = record {
      behind = at;
      terminator = ends;
      chosen = λ o x first is. is;
      edges = λ other k. edge_alike (edge_of (stands_at f trail) k);
      returns = λ e ops is. record {
        other = ops;
        taken = takes_same (item.Exit (stands_at f trail)) h.memory r.memory entries memory ∙ is;
        given = refl;
        held = λ held. held;
        places = refl;
      };
    }

  pub unchanged_does_alike : DoAlike m m' told told' bound First Second Like Alone g f f
  unchanged_does_alike = record {
    shapes = ap (λ s. shapes_in s g) shapes;
    begin = alike (item.Entry ∷ []) (no_entries (value_count f));
    enter = λ args. put_alike (item.Entry ∷ []) item.Entry args (no_entries (value_count f));
    insts = λ h r slots lent trail trail' entries entries' rest rest' on i at.
        let s = same trail trail' entries entries' on.like in
        subst (λ t. AreInstsAlike m m' told told' bound First Second Like Alone g f f h r trail t entries entries' rest i) (sym s.0)
        (subst (λ es. AreInstsAlike m m' told told' bound First Second Like Alone g f f h r trail trail entries es rest i) (sym s.1)
        (inst_alike h r on.level.memory trail entries rest i at));
    ends = λ h r slots lent trail trail' entries entries' rest rest' on i at is.
        let s = same trail trail' entries entries' on.like in
        subst (λ t. AreEndsAlike m m' told told' bound First Second Like Alone g f f h r trail t entries entries' rest i) (sym s.0)
        (subst (λ es. AreEndsAlike m m' told told' bound First Second Like Alone g f f h r trail trail entries es rest i) (sym s.1)
        (end_alike h r on.level.memory trail entries rest i at is));
    resume = λ h callee slots lent trail trail' entries entries' rest x first tasks like.
        let s = same trail trail' entries entries' like in
        subst (λ t. ArePutAlike Like g (call_at f trail ∷ trail) (call_at f t ∷ t) (puts told g f (call_at f trail) (x ∷ []) entries)
        (puts told' g f (call_at f t) (x ∷ []) entries')) (sym s.0)
        (subst (λ es. ArePutAlike Like g (call_at f trail ∷ trail) (call_at f trail ∷ trail) (puts told g f (call_at f trail) (x ∷ []) entries)
        (puts told' g f (call_at f trail) (x ∷ []) es)) (sym s.1) (put_alike (call_at f trail ∷ trail) (call_at f trail) (x ∷ []) entries));
  }
