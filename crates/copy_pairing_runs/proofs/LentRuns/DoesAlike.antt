-- A function in which a copy is lent does alike: with the same operands, effects and results; where the copy was destroyed its scope ends.
use Rattle.std.proofs.Common.{◌≡◌, ℕ, arith, List, [], ◌∷◌, ◌++◌, drop, length, refl, sym, ap, ap₂}
use Rattle.std.proofs.Common.{◌∙◌, subst, Bool, true, false, cond, Option, Some, None, Ok, ◌⊎◌, inl, inr, ⊎_elim}
use Rattle.std.specs.Prelude.{◌==◌, ◌||◌, option_map}
use Rattle.std.specs.List.{list_any}
use Rattle.std.specs.declared.result.Result.{Result}
use Rattle.std.proofs.lemmas.Bool.{eq-eqb, eqb-true}
use Rattle.argument_conventions.specs.Arguments.{arguments_of}
use Rattle.instruction_table.specs.Forms.{roles_of}
use Rattle.instruction_table.specs.declared.entries.Role.TheVariants as role
use Rattle.instruction_table.specs.declared.op.Op.{Op}
use Rattle.instruction_table.specs.declared.op.Op.TheVariants as op
use Rattle.sil_cfg_items.specs.Items.{item_defined, item_taken}
use Rattle.sil_cfg_items.specs.Parts.{inst_at, terminator_of}
use Rattle.sil_cfg_items.specs.Roles.{by_row, conventions_in, roles_for, taken_as, taken_by, taken_each}
use Rattle.numbered_form.specs.Lists.{Each}
use Rattle.numbered_form.specs.inner.Parts.{has_operands}
use Rattle.ownership_kinds_chains.specs.OwnershipChains.Facts.{facts_with}
use Rattle.ownership_kinds_chains.specs.declared.ownership_chains.facts.Facts.{Facts}
use Rattle.holder_model_values.specs.RunValues.Memory.{Memory}
use Rattle.sil_ast.specs.declared.function.Function.{Function}
use Rattle.sil_ast.specs.declared.inst.Inst.{Inst}
use Rattle.sil_ast.specs.declared.module.Module.{Module}
use Rattle.sil_ast.specs.declared.operands.Operand.{Operand}
use Rattle.sil_ast.specs.declared.place.EdgeId.{EdgeId}
use Rattle.sil_ast.specs.declared.place.FuncId.{FuncId}
use Rattle.sil_ast.specs.declared.place.PointId.{PointId}
use Rattle.sil_ast.specs.declared.place.ValueId.{ValueId}
use Rattle.sil_cfg.specs.declared.item.Item.{Item}
use Rattle.sil_cfg.specs.declared.item.Item.TheVariants as item
use Rattle.sil_types_declarations.specs.TypeDefinitions.Declarations.{Declarations, declarations_of}
use Rattle.sil_types_declarations.specs.declared.type_definitions.kind.Kind.TheVariants as kind
use Rattle.copy_pairing_acceptance.specs.copy_pairing_model.Rewritten.{lent, lent_inst, with_op}
use Rattle.holder_model_laws.specs.ownership_kinds_origins.Facts.{facts_in}
use Rattle.holder_model_laws.specs.holder_model.Calling.{argument_data, given_places, lent_places, places_given, value_count}
use Rattle.holder_model_laws.specs.holder_model.Data.{Datum, references_in}
use Rattle.holder_model_laws.specs.holder_model.Edges.{edge_of}
use Rattle.holder_model_laws.specs.holder_model.Effects as effects
use Rattle.holder_model_laws.specs.holder_model.Effects.{Effect, effect_by, effect_of, only, unchanged, with_some}
use Rattle.holder_model_laws.specs.holder_model.Faults.{HolderFault}
use Rattle.holder_model_laws.specs.holder_model.Frames.{Entry, Frame, Gone, Held, Operands, entry_at, no_entries, operands_of, results_put}
use Rattle.holder_model_laws.specs.holder_model.HolderStates.{HolderState}
use Rattle.holder_model_laws.specs.holder_model.MemoryEffects.{at_places, effect}
use Rattle.holder_model_laws.specs.holder_model.ModuleFacts.{ModuleFacts, facts_told}
use Rattle.holder_model_laws.specs.holder_model.ModuleShapes.{shapes_in}
use Rattle.holder_model_laws.specs.holder_model.Standing.{stands_at}
use Rattle.holder_model_laws.specs.holder_model.States.{Runs, Task}
use Rattle.holder_model_laws.specs.LockstepRuns.inner.Frames.{AreDropsAlike, AreEdgesAlike, AreEffectsAlike, AreEndsAlike, AreInstsAlike, AreSpared, DoAlike, does, takes}
use Rattle.holder_model_laws.specs.LockstepRuns.inner.Lockstep.{ArePutAlike, frame_at}
use Rattle.holder_model_laws.specs.LockstepRuns.inner.Parts.{call_at, puts}
use Rattle.copy_pairing_acceptance.proofs.LentFunctions.Facts.{copy_facts, other_facts}
use Rattle.copy_pairing_acceptance.proofs.LentFunctions.Insts.{Becomes, becomes, borrows, ends, stays}
use Rattle.copy_pairing_acceptance.proofs.LentFunctions.Marks.{first, not_destroy, one_operand, stands}
use Rattle.copy_pairing_acceptance.proofs.LentFunctions.Parts.{defined_lent, inst_at_lent, terminator_lent}
use Rattle.copy_pairing_acceptance.proofs.LentFunctions.Ready.{Ready}
use Rattle.copy_pairing_acceptance.proofs.LentFunctions.Roles.{IsGentle}
use Rattle.copy_pairing_acceptance.proofs.LentFunctions.ValueRows.{same_value}
use Rattle.copy_pairing_runs.specs.LentRuns.inner.LentEntries.{IsGoneOrMade, IsLentFrame, NeverAlone, lent_entries, lent_in, makes_copy}
use Rattle.copy_pairing_runs.specs.LentRuns.inner.Sparing.{AreCopiesSpared, IsCopySpared}
use Rattle.copy_pairing_runs.proofs.LentRuns.Entries.{datum_lent, holds_nothing, no_entries_lent, none_there}
use Rattle.copy_pairing_runs.proofs.LentRuns.Items.{carried_lent, edge_gentle, edge_taken, exit_gentle, exit_taken, inst_gentle, inst_taken, stands_lent}
use Rattle.copy_pairing_runs.proofs.LentRuns.Operands.{IsPutSo, as_it_was, copy_left, destroyed, gone, lent_operands, made, operands_lent, results_lent, results_so}

module _ (m m' : Module) (told told' : ModuleFacts) (bound : ℕ) (First Second : HolderState → Type 0) (n : ℕ) (p : PointId) (c v : ValueId)
    (g : FuncId) (numbered : g.0 ≡ n) (f : Function) (r : Ready (declarations_of m) f p c v)
    (declarations : declarations_of m' ≡ declarations_of m) (shapes : told'.shapes ≡ told.shapes)
    (facts : facts_told told g ≡ facts_in (declarations_of m) f) (facts' : facts_told told' g ≡ facts_in (declarations_of m) (lent c f))
    (count : value_count (lent c f) ≡ value_count f) where
  abbrev d : Declarations
  d = declarations_of m

  abbrev f' : Function
  f' = lent c f

  abbrev Like : FuncId → List Item → List Entry → List Item → List Entry → Type 0
  Like = IsLentFrame n f c

  abbrev Alike : List Item → Item → List Entry → List Entry → List (Task Frame) → Effect HolderFault → Effect HolderFault → Type 0
  Alike trail i left left' rest e e' = AreEffectsAlike m m' told told' bound First Second Like NeverAlone g f f' trail trail i i left left' rest e e'

  same_entries : (es : List Entry) → lent_in n c g es ≡ lent_entries c es
  same_entries es = ap (λ b. cond b (lent_entries c es) es) (eq-eqb g.0 n numbered)

  abbrev IsSo : List Item → List Entry → Type 0
  IsSo trail es = IsGoneOrMade f c trail es

  like : (trail : List Item) (es : List Entry) → IsSo trail es → Like g trail es trail (lent_entries c es)
  like trail es so = record { trails = refl; lent = sym (same_entries es); copy = λ is. so }

  -- ---- facts

  others : (w : ValueId) → (w.0 ≡ c.0 → ⊥) → facts_told told' g w ≡ facts_told told g w
  others w apart =
      ap (λ (h : ValueId → Option Facts). h w) facts'
      ∙ (by (w.0 == c.0) refl ∙ sym (ap (λ (h : ValueId → Option Facts). h w) facts))
    where
      by : (b : Bool) → (w.0 == c.0) ≡ b → facts_in d f' w ≡ facts_in d f w
      by true e = absurd (apart (eqb-true w.0 c.0 e))
      by false e = other_facts d f p c v r w e

  owned : facts_told told g c ≡ Some (facts_with kind.Owned (c ∷ []))
  owned = ap (λ (h : ValueId → Option Facts). h c) facts ∙ r.owned

  lends : facts_told told' g c ≡ Some (facts_with kind.Guaranteed (c ∷ []))
  lends = ap (λ (h : ValueId → Option Facts). h c) facts' ∙ copy_facts d f p c v r

  abbrev lent_of : Operands → Operands
  lent_of = lent_operands (facts_told told g) (facts_told told' g) c others owned lends

  -- ---- results

  -- the copy's entry is gone or held still, behind ends and behind results
  left_so : (trail : List Item) (i : Item) (memory : Memory) (es : List Entry) (ops : Operands) → IsSo trail es → takes told g f i memory es ≡ Ok ops
      → IsSo trail ops.left
  left_so trail i memory es ops so is =
      ⊎_elim (λ same. ⊎_elim (λ none. inl (same ∙ none)) (λ held. inr (record { datum = held.datum; held = same ∙ held.held; made = held.made })) so)
      (λ none. inl none) (copy_left (facts_told told g) (facts_told told' g) c others owned lends memory es (item_taken f i) ops is)

  behind_so : (trail : List Item) (i : Item) (es behind : List Entry) → IsSo trail es
      → IsPutSo (facts_told told g) (facts_told told' g) c others owned lends (item_defined f i) es behind → IsSo (i ∷ trail) behind
  behind_so trail i es behind so (as_it_was e) =
      ⊎_elim (λ none. inl (e ∙ none))
      (λ held. inr (record { datum = held.datum; held = e ∙ held.held; made = later (makes_copy f c i) (list_any (makes_copy f c) trail) held.made })) so
    where
      later : (a b : Bool) → b ≡ true → (a || b) ≡ true
      later true b h = refl
      later false b h = h
  behind_so trail i es behind so (gone e) = inl e
  behind_so trail i es behind so (made x e h) = inr (record { datum = x; held = e; made = ap (λ b. b || list_any (makes_copy f c) trail) h })

  put_alike : (trail : List Item) (i : Item) (xs : List Datum) (es : List Entry) → IsSo trail es
      → ArePutAlike Like g (i ∷ trail) (i ∷ trail) (puts told g f i xs es) (puts told' g f' i xs (lent_entries c es))
  put_alike trail i xs es so behind is = (
    lent_entries c behind,
    ap (λ vs. results_put (facts_told told' g) vs xs (lent_entries c es)) (defined_lent c f i)
        ∙ results_lent (facts_told told g) (facts_told told' g) c others owned lends (item_defined f i) xs es behind is,
    like (i ∷ trail) behind
        (behind_so trail i es behind so (results_so (facts_told told g) (facts_told told' g) c others owned lends (item_defined f i) xs es behind is)),
  )

  -- ---- operands

  taken_alike : (i : Item) (memory memory' : Memory) (es : List Entry) → memory' ≡ memory → item_taken f' i ≡ item_taken f i
      → Each (IsGentle d f p c v r) (item_taken f i) → (ops : Operands) → takes told g f i memory es ≡ Ok ops
      → takes told' g f' i memory' (lent_entries c es) ≡ Ok (lent_of ops)
  taken_alike i memory memory' es same taken gentle ops is =
      ap₂ (λ y ts. operands_of (facts_told told' g) y (lent_entries c es) ts) same taken
      ∙ operands_lent (facts_told told g) (facts_told told' g) c others owned lends memory es (item_taken f i) gentle ops is

  -- ---- effects

  does_same : (memory memory' : Memory) (i : Inst) (xs : List Datum) → memory' ≡ memory → does m' told' g memory' i xs ≡ does m told g memory i xs
  does_same memory memory' i xs e =
      ap (λ y. does m' told' g y i xs) e ∙ (ap (λ k. effect k told'.shapes (shapes_in told'.shapes g) memory i xs) declarations
      ∙ ap (λ s. effect d s (shapes_in s g) memory i xs) shapes)

  effect_alike : (trail : List Item) (i : Item) (left : List Entry) (rest : List (Task Frame)) → IsSo trail left → item_taken f' i ≡ item_taken f i → (e : Effect HolderFault)
      → Alike trail i left (lent_entries c left) rest e e
  effect_alike trail i left rest so taken (effects.Makes x) = record {
    memory = refl;
    slots = refl;
    retained = omega arith;
    dropped = AreDropsAlike.both refl;
    put = put_alike trail i x.results left so;
  }
  effect_alike trail i left rest so taken (effects.Calls k args) = record {
    callee = refl;
    given = refl;
    lent = ap (λ ts. lent_places (drop 1 ts) args) taken;
    waits = like trail left so;
    out = put_alike trail i _ left so;
  }
  effect_alike trail i left rest so taken (effects.Traps t) = refl
  effect_alike trail i left rest so taken (effects.Faults x) = tt
  effect_alike trail i left rest so taken effects.Unfit = tt

  nothing_put : (known : ValueId → Option Facts) (vs : List ValueId) (es behind : List Entry) → results_put known vs [] es ≡ Ok behind → behind ≡ es
  nothing_put known [] es behind is = let same : ◌≡◌ {A = Result (List Entry) HolderFault} (Ok es) (Ok behind) = is in cc
  nothing_put known (x ∷ vs) es behind is = absurd (cc)

  data_same : (es : List Entry) (vs : List ValueId) → argument_data (lent_entries c es) vs ≡ argument_data es vs
  data_same es [] = refl
  data_same es (w ∷ vs) = ap₂ (λ a b. a ∷ b) (datum_lent c w es) (data_same es vs)

  places_same : (es : List Entry) → places_given f' (lent_entries c es) ≡ places_given f es
  places_same es =
      ap (λ vs. given_places (arguments_of f.signature) (argument_data (lent_entries c es) vs)) (defined_lent c f item.Entry)
      ∙ ap (given_places (arguments_of f.signature)) (data_same es (item_defined f item.Entry))

  -- ---- frames that go on

  module _ (h s : HolderState) (memory : s.memory ≡ h.memory) (trail : List Item) (es : List Entry) (rest : List (Task Frame))
      (so : IsGoneOrMade f c trail es) (spared : IsCopySpared m m' told told' bound First Second n f c g h es rest) where
    abbrev q : PointId
    q = stands_at f trail

    abbrev it : Item
    it = item.Inst q

    form : (entry_at es c ≡ Gone) ⊎ ((x : Datum) × (entry_at es c ≡ Held x))
    form = ⊎_elim (λ none. inl none) (λ held. inr (held.datum, held.held)) so

    -- what the instruction i does in the first function, and j in the second one
    abbrev Done : Inst → Inst → Operands → Type 0
    Done i j ops = (ops' : Operands) × (takes told' g f' it s.memory (lent_entries c es) ≡ Ok ops')
        × Alike trail it ops.left ops'.left rest (does m told g h.memory i ops.given) (does m' told' g s.memory j ops'.given)

    -- by its row
    abbrev by_row_of : Inst → Op → List Datum → Effect HolderFault
    by_row_of i o xs =
        effect_by d told.shapes (shapes_in told.shapes g) h.memory i (at_places d told.shapes (shapes_in told.shapes g) h.memory i) (effect_of o) xs

    stays_alike : (i : Inst) → inst_at f q ≡ Some i → inst_at f' q ≡ Some i → Each (IsGentle d f p c v r) (taken_by i ++ []) → (ops : Operands)
        → takes told g f it h.memory es ≡ Ok ops → Done i i ops
    stays_alike i at at' gentle ops is =
        let same : item_taken f' it ≡ item_taken f it = inst_taken c f' q i at' ∙ sym (inst_taken c f q i at) in (
          lent_of ops,
          taken_alike it h.memory s.memory es memory same (subst (Each (IsGentle d f p c v r)) (sym (inst_taken c f q i at)) gentle) ops is,
          subst (λ e. Alike trail it ops.left (lent_entries c ops.left) rest (does m told g h.memory i ops.given) e)
              (sym (does_same h.memory s.memory i ops.given memory))
              (effect_alike trail it ops.left rest (left_so trail it h.memory es ops so is) same (does m told g h.memory i ops.given)),
        )

    -- the copy, which becomes a borrow: nothing is retained
    borrows_alike : (i : Inst) → i.op ≡ op.CopyValue → inst_at f q ≡ Some i → inst_at f' q ≡ Some (with_op op.BeginBorrow i)
        → Each (IsGentle d f p c v r) (taken_by i ++ []) → (ops : Operands) → takes told g f it h.memory es ≡ Ok ops → Done i (with_op op.BeginBorrow i) ops
    borrows_alike i e at at' gentle ops is =
        let row : taken_by (with_op op.BeginBorrow i) ≡ taken_by i =
        ap (λ x. taken_each i.operands (roles_for (roles_of x) (conventions_in i) (length i.operands))) (sym e) in
        let same : item_taken f' it ≡ item_taken f it =
        inst_taken c f' q (with_op op.BeginBorrow i) at' ∙ (ap (λ ts. ts ++ []) row ∙ sym (inst_taken c f q i at)) in
        let does_so : does m told g h.memory i ops.given ≡ with_some copied (only ops.given) = ap (λ o. by_row_of i o ops.given) e in (
          lent_of ops,
          taken_alike it h.memory s.memory es memory same (subst (Each (IsGentle d f p c v r)) (sym (inst_taken c f q i at)) gentle) ops is,
          subst (λ x. Alike trail it ops.left (lent_entries c ops.left) rest x (with_some borrowed (only ops.given))) (sym does_so) (by_only (only ops.given)),
        )
      where
        copied : Datum → Effect HolderFault
        copied x = effects.Makes (record (unchanged h.memory) { results = x ∷ []; retained = references_in x })

        borrowed : Datum → Effect HolderFault
        borrowed x = effects.Makes (record (unchanged s.memory) { results = x ∷ [] })

        by_only : (o : Option Datum) → Alike trail it ops.left (lent_entries c ops.left) rest (with_some copied o) (with_some borrowed o)
        by_only None = tt
        by_only (Some x) = record {
          memory = memory;
          slots = refl;
          retained = omega arith;
          dropped = AreDropsAlike.both refl;
          put = put_alike trail it (x ∷ []) ops.left (left_so trail it h.memory es ops so is);
        }

    -- a destroy of the copy, which becomes the end of the scope: nothing is dropped
    ends_alike : (i : Inst) → i.op ≡ op.DestroyValue → inst_at f q ≡ Some i → inst_at f' q ≡ Some (with_op op.EndBorrow i)
        → (o : Operand) → i.operands ≡ o ∷ [] → o.value ≡ c → (ops : Operands) → takes told g f it h.memory es ≡ Ok ops → Done i (with_op op.EndBorrow i) ops
    ends_alike i e at at' o alone is ops took =
        let old : item_taken f it ≡ taken_as o (by_row role.Consumed) ∷ [] =
        inst_taken c f q i at ∙ ap₂ (λ os x. taken_each os (roles_for (roles_of x) (conventions_in i) (length os)) ++ []) alone e in
        let new : item_taken f' it ≡ taken_as o (by_row role.ScopeRole) ∷ [] =
        inst_taken c f' q (with_op op.EndBorrow i) at'
        ∙ ap (λ os. taken_each os (roles_for (roles_of op.EndBorrow) (conventions_in i) (length os)) ++ []) alone in
        let z = destroyed (facts_told told g) (facts_told told' g) c others owned lends o is h.memory es ops form
        (sym (ap (operands_of (facts_told told g) h.memory es) old) ∙ took) in
        let does_so : does m told g h.memory i ops.given ≡ effects.Makes (record (unchanged h.memory) { dropped = references_in z.datum }) =
        ap (λ xs. does m told g h.memory i xs) z.given ∙ ap (λ x. by_row_of i x (z.datum ∷ [])) e in (
          lent_of ops,
          ap₂ (λ y ts. operands_of (facts_told told' g) y (lent_entries c es) ts) memory new ∙ z.ends,
          subst (λ x. Alike trail it ops.left (lent_entries c ops.left) rest x (effects.Makes (unchanged s.memory))) (sym does_so) (record {
            memory = memory;
            slots = refl;
            retained = omega arith;
            dropped = AreDropsAlike.alone refl (λ places entries put.
                subst (λ x. AreSpared h.memory (Runs (frame_at g places [] (it ∷ trail) x) ∷ rest) (references_in z.datum))
                (sym (nothing_put (facts_told told g) (item_defined f it) ops.left entries put ∙ z.left)) (spared z.datum z.held places (it ∷ trail)));
            put = put_alike trail it [] ops.left (left_so trail it h.memory es ops so took);
          }),
        )

    becoming_alike : (i j : Inst) → Becomes c i j → inst_at f q ≡ Some i → inst_at f' q ≡ Some j → (ops : Operands)
        → takes told g f it h.memory es ≡ Ok ops → Done i j ops
    becoming_alike i _ (borrows e k) at at' ops is =
        borrows_alike i e at at' (inst_gentle d f p c v r q i at (not_destroy d f p c v r i op.CopyValue e refl)) ops is
    becoming_alike i _ (ends e k) at at' ops is =
        let one = one_operand i.operands
        (subst (λ x. has_operands x i.operands ≡ true) e (r.formed.parts q.block.0 q.index i (stands d f p c v r q i at)).operands) in
        let taken : (one.operand.value.0 == c.0) ≡ true =
        first (one.operand.value.0 == c.0) (sym (ap (list_any (λ (x : Operand). x.value.0 == c.0)) one.alone) ∙ k) in
        ends_alike i e at at' one.operand one.alone (same_value one.operand.value c (eqb-true one.operand.value.0 c.0 taken)) ops is
    becoming_alike i _ (stays e k) at at' ops is = stays_alike i at at' (inst_gentle d f p c v r q i at k) ops is

    inst_alike : (i : Inst) → inst_at f q ≡ Some i
        → AreInstsAlike m m' told told' bound First Second Like NeverAlone g f f' h s trail trail es (lent_entries c es) rest i
    inst_alike i at =
        let there : inst_at f' q ≡ Some (lent_inst c i) = inst_at_lent c f q ∙ ap (option_map (lent_inst c)) at in
        record {
          other = lent_inst c i;
          stands = ap (inst_at f') (stands_lent c f trail) ∙ there;
          taken = λ ops is.
              let z = becoming_alike i (lent_inst c i) (becomes c i) at there ops is in (
                z.0,
                ap (λ x. takes told' g f' (item.Inst x) s.memory (lent_entries c es)) (stands_lent c f trail) ∙ z.1,
                subst (λ x. AreEffectsAlike m m' told told' bound First Second Like NeverAlone g f f' trail trail it (item.Inst x) ops.left z.0.left rest
                    (does m told g h.memory i ops.given) (does m' told' g s.memory (lent_inst c i) z.0.given)) (sym (stands_lent c f trail)) z.2,
              );
        }

    edge_alike : (e : EdgeId) → AreEdgesAlike m m' told told' bound First Second Like NeverAlone g f f' h s trail trail es (lent_entries c es) rest e e
    edge_alike e ops carried is some = record {
      other = lent_of ops;
      taken = taken_alike (item.Edge e) h.memory s.memory es memory (edge_taken c f e) (edge_gentle d f p c v r e) ops is;
      carries = carried_lent c f e ops.given ∙ some;
      put = put_alike trail (item.Edge e) carried ops.left (left_so trail (item.Edge e) h.memory es ops so is);
    }

    end_alike : (i : Inst) → inst_at f q ≡ None → terminator_of f q.block.0 ≡ Some i
        → AreEndsAlike m m' told told' bound First Second Like NeverAlone g f f' h s trail trail es (lent_entries c es) rest i
    end_alike i at last = record {
      behind = ap (inst_at f') (stands_lent c f trail) ∙ (inst_at_lent c f q ∙ ap (option_map (lent_inst c)) at);
      terminator = ap (λ (x : PointId). terminator_of f' x.block.0) (stands_lent c f trail) ∙ (terminator_lent c f q.block.0 ∙ last);
      chosen = λ o x first is. datum_lent c o.value es ∙ is;
      edges = λ other k.
          subst (λ x. AreEdgesAlike m m' told told' bound First Second Like NeverAlone g f f' h s trail trail es (lent_entries c es) rest (edge_of q k) (edge_of x k))
          (sym (stands_lent c f trail)) (edge_alike (edge_of q k));
      returns = λ e ops is. record {
        other = lent_of ops;
        taken = ap (λ x. takes told' g f' (item.Exit x) s.memory (lent_entries c es)) (stands_lent c f trail)
            ∙ taken_alike (item.Exit q) h.memory s.memory es memory (exit_taken c f q) (exit_gentle d f p c v r q) ops is;
        given = refl;
        held = holds_nothing c ops.left;
        places = places_same ops.left;
      };
    }

  -- ---- all of it

  empty_same : no_entries (value_count f') ≡ lent_entries c (no_entries (value_count f))
  empty_same = ap no_entries count ∙ sym (no_entries_lent c (value_count f))

  pub lent_does_alike : AreCopiesSpared m m' told told' bound First Second n f c g → DoAlike m m' told told' bound First Second Like NeverAlone g f f'
  lent_does_alike spared = record {
    shapes = ap (λ x. shapes_in x g) shapes;
    begin = record { trails = refl; lent = empty_same ∙ sym (same_entries (no_entries (value_count f))); copy = λ is. inl (none_there c (value_count f)) };
    enter = λ args.
        subst (λ es. ArePutAlike Like g (item.Entry ∷ []) (item.Entry ∷ []) (puts told g f item.Entry args (no_entries (value_count f))) (puts told' g f' item.Entry args es))
        (sym empty_same) (put_alike [] item.Entry args (no_entries (value_count f)) (inl (none_there c (value_count f))));
    insts = λ h s slots lent trail trail' es es' rest rest' on i at.
        subst (λ t. AreInstsAlike m m' told told' bound First Second Like NeverAlone g f f' h s trail t es es' rest i) (sym on.like.trails)
        (subst (λ x. AreInstsAlike m m' told told' bound First Second Like NeverAlone g f f' h s trail trail es x rest i) (sym (on.like.lent ∙ same_entries es))
        (inst_alike h s on.level.memory trail es rest (on.like.copy numbered) (spared h s slots lent trail trail' es es' rest rest' on) i at));
    ends = λ h s slots lent trail trail' es es' rest rest' on i at is.
        subst (λ t. AreEndsAlike m m' told told' bound First Second Like NeverAlone g f f' h s trail t es es' rest i) (sym on.like.trails)
        (subst (λ x. AreEndsAlike m m' told told' bound First Second Like NeverAlone g f f' h s trail trail es x rest i) (sym (on.like.lent ∙ same_entries es))
        (end_alike h s on.level.memory trail es rest (on.like.copy numbered) (spared h s slots lent trail trail' es es' rest rest' on) i at is));
    resume = λ h callee slots lent trail trail' es es' rest x first tasks alike.
        subst (λ t. ArePutAlike Like g (call_at f trail ∷ trail) (call_at f' t ∷ t) (puts told g f (call_at f trail) (x ∷ []) es)
        (puts told' g f' (call_at f' t) (x ∷ []) es')) (sym alike.trails)
        (subst (λ q. ArePutAlike Like g (call_at f trail ∷ trail) (item.Inst q ∷ trail) (puts told g f (call_at f trail) (x ∷ []) es)
        (puts told' g f' (item.Inst q) (x ∷ []) es')) (sym (stands_lent c f trail))
        (subst (λ y. ArePutAlike Like g (call_at f trail ∷ trail) (call_at f trail ∷ trail) (puts told g f (call_at f trail) (x ∷ []) es)
        (puts told' g f' (call_at f trail) (x ∷ []) y)) (sym (alike.lent ∙ same_entries es)) (put_alike trail (call_at f trail) (x ∷ []) es (alike.copy numbered))));
  }
