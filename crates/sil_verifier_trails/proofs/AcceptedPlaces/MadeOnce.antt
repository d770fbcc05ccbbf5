-- No item makes a root anew that is there: a slot that is allocated, or an argument of the entry.
use Rattle.std.proofs.Common.{◌≡◌, ◌⊎◌, inl, inr, ℕ, zero, suc, List, [], ◌∷◌, ◌++◌, map, refl, sym, ap, ◌∙◌, subst, Bool, true, false, Option, Some, None}
use Rattle.std.specs.Prelude.{Contains, flat_map, option_and_then, unwrap_or}
use Rattle.std.proofs.lemmas.Bool.{false≢true, true≢false}
use Rattle.std.proofs.lemmas.List.Elements.{Contains-append_cases}
use Rattle.sil_verifier_values.specs.memory_rules_accesses.Accesses.{deallocations_of, does_of, ended, made, made_by, mentions_of}
use Rattle.sil_verifier_values.specs.memory_rules_accesses.Operations.{access_kind_of}
use Rattle.sil_verifier_values.specs.memory_rules_accesses.Sources.{borrow_source, element_place, field_source, is_slot, is_slot_source, is_trivial_member, loan_source, member_place}
use Rattle.sil_verifier_values.specs.memory_rules_accesses.Sources.{object_source, part_source, result_source, slot_source, source_at, source_by, sources_of, upcast_source}
use Rattle.sil_verifier_values.specs.memory_rules_accesses.declared.access.Access.{Access}
use Rattle.sil_verifier_values.specs.memory_rules_accesses.declared.access.Access.TheVariants.{Allocates}
use Rattle.sil_verifier_values.specs.memory_rules_accesses.declared.columns.AccessKind.{AccessKind}
use Rattle.sil_verifier_values.specs.memory_rules_accesses.declared.columns.AccessKind.TheVariants as access
use Rattle.sil_verifier_values.specs.memory_rules_accesses.declared.source.Source.{Source}
use Rattle.sil_verifier_values.specs.memory_rules_accesses.declared.source.Source.TheVariants as source
use Rattle.sil_verifier_values.specs.memory_rules_parts.Switches.{is_same, when}
use Rattle.sil_verifier_values.specs.memory_rules_parts.declared.part.Part.TheVariants.{Allocation}
use Rattle.sil_verifier_values.specs.ownership_kinds_origins.Facts.{facts_in}
use Rattle.sil_verifier_trails.specs.RunTrails.inner.RunTrails.{GoesOn, IsRunTrail}
use Rattle.sil_verifier_trails.specs.AcceptedMemory.inner.PartTrails.{accesses_in}
use Rattle.sil_verifier_trails.proofs.AcceptedMemory.PartsTurned.{turn_by}
use Rattle.sil_verifier_trails.proofs.AcceptedMemory.Turning.{turned_each}
use Rattle.sil_verifier_values.specs.inner.Known.{IsAcceptedBody}
use Rattle.sil_verifier_values.proofs.Counted.{nothing_in}
use Rattle.sil_verifier_values.proofs.Made.{parameters_of_entry}
use Rattle.sil_verifier_values.proofs.TableRows.{argument_rows}
use Rattle.sil_verifier_values.proofs.Counted.{stands}
use Rattle.sil_cfg_items.specs.Items.{arg_value, item_defined, item_taken}
use Rattle.sil_cfg_items.specs.Parts.{args_behind, edge_at, inst_at, item_inst, results_in}
use Rattle.numbered_form.specs.Lists.{Each}
use Rattle.sil_verifier_values.specs.ownership_kinds_chains.OwnershipChains.Facts.{has}
use Rattle.sil_verifier_values.specs.ownership_kinds_chains.OwnershipMarks.Marks.{marks_of}
use Rattle.sil_verifier_values.specs.reach_engine_marks.declared.path_patterns.mark.Mark.{Mark}
use Rattle.numbered_form.proofs.PointChecks.Among.{Among, among_contained, among_flat, among_left, among_right, contained_among}
use Rattle.sil_ast.specs.Blocks.{args_of}
use Rattle.sil_ast.specs.declared.function.Function.{Function}
use Rattle.sil_ast.specs.declared.inst.Edge.{Edge}
use Rattle.sil_ast.specs.declared.inst.Inst.{Inst}
use Rattle.sil_ast.specs.declared.module.Module.{Module}
use Rattle.sil_ast.specs.declared.place.EdgeId.{EdgeId}
use Rattle.sil_ast.specs.declared.place.PointId.{PointId}
use Rattle.sil_ast.specs.declared.place.ValueId.{ValueId}
use Rattle.sil_ast.specs.declared.type_name.TypeName.{TypeName}
use Rattle.sil_cfg.specs.declared.item.Item.{Item}
use Rattle.sil_cfg.specs.declared.item.Item.TheVariants as item
use Rattle.sil_verifier_values.specs.sil_types_declarations.TypeDefinitions.Declarations.{Declarations, declarations_of}
use Rattle.numbered_form.specs.ValueTables.FirstValue.{first_value}
use Rattle.sil_verifier_trails.specs.AcceptedPlaces.inner.Cells.{AreArgumentsMadeOnce}
use Rattle.sil_verifier_trails.specs.AcceptedPlaces.inner.Stacks.{AreSlotsMadeOnce, slots_behind, slots_on}
use Rattle.sil_verifier_trails.proofs.AcceptedPlaces.Fields.{has_among}
use Rattle.sil_verifier_trails.proofs.AcceptedPlaces.Items.{accesses_each}
use Rattle.sil_verifier_trails.proofs.AcceptedPlaces.ItemStacks.{accepted_in, closes_opens, none_made, opens_none}
use Rattle.sil_verifier_trails.proofs.AcceptedPlaces.Lists.{split_among}
use Rattle.sil_verifier_trails.proofs.AcceptedPlaces.Made.{argument_there, results_so}
use Rattle.sil_verifier_trails.proofs.AcceptedPlaces.PartsThere.{each_where_among}
use Rattle.sil_verifier_trails.proofs.AcceptedPlaces.Stacked.{has_behind}
use Rattle.sil_verifier_trails.proofs.AcceptedPlaces.StackTops.{allocated_once, are_slots}

-- ---- a switch that nothing turns off stays on

abbrev pub StaysOn : Option Bool → Type 0
StaysOn t = t ≡ Some false → ⊥

pub stays_on : (turn : Access → Option Bool) (xs : List Access) → Each (λ x. StaysOn (turn x)) xs → turned_each turn xs true ≡ true
stays_on turn [] h = refl
stays_on turn (x ∷ xs) h = by (turn x) refl (stays_on turn xs h.1)
  where
    by : (t : Option Bool) → turn x ≡ t → turned_each turn xs true ≡ true → turned_each turn xs (unwrap_or (turn x) true) ≡ true
    by None is rest = ap (λ t. turned_each turn xs (unwrap_or t true)) is ∙ rest
    by (Some true) is rest = ap (λ t. turned_each turn xs (unwrap_or t true)) is ∙ rest
    by (Some false) is rest = absurd (h.0 is)

pub each_front : {A : Type 0} (P : A → Type 0) (xs ys : List A) → Each P (xs ++ ys) → Each P xs
each_front P [] ys h = tt
each_front P (x ∷ xs) ys h = (h.0, each_front P xs ys h.1)

-- ---- slots

made_slot : (v : ValueId) (s : Source) → is_slot_source s ≡ true → Among (Allocates v) (made_by v s)
made_slot v (source.Slot trivial) e = inl refl
made_slot v _ e = absurd (false≢true e)

is_there : (P : ValueId → Type 0) (vs : List ValueId) (v : ValueId) → Each P vs → has vs v.0 ≡ true → P v
is_there P vs v h e = each_where_among P vs v h (has_among vs v e)

module _ (m : Module) (n : ℕ) (f : Function) (a : IsAcceptedBody m n f) where
  abbrev d : Declarations
  d = declarations_of m

  abbrev sources : List Source
  sources = sources_of d f

  -- what an item makes that is a slot is allocated
  made_among : (i : Item) (v : ValueId) → is_slot sources v ≡ true → has (item_defined f i) v.0 ≡ true → Among (Allocates v) (accesses_in d f i)
  made_among i v is made_here =
      let own = among_flat (made sources) (Allocates v) v (item_defined f i) (has_among (item_defined f i) v made_here) (made_slot v (source_at sources v) is) in
      among_right (Allocates v) (flat_map ended (marks_of (facts_in d f) f i)) _
      (among_right (Allocates v) (mentions_of (item_inst f i) (item_taken f i)) _
      (among_right (Allocates v) (does_of (item_inst f i)) _
      (among_right (Allocates v) (deallocations_of (item_inst f i)) _
      (among_left (Allocates v) (flat_map (made sources) (item_defined f i)) _ own))))

  -- an item that makes a slot deallocates none
  none_closed : (i : Item) (v : ValueId) → is_slot sources v ≡ true → has (item_defined f i) v.0 ≡ true → Each (λ x. StaysOn (turn_by d f (Allocation v) x)) (accesses_in d f i)
  none_closed i v is made_here =
      accesses_each (λ x. StaysOn (turn_by d f (Allocation v) x)) sources (facts_in d f) f i (λ w e. cc) (λ w e. cc) (λ w b e. cc) (λ x at o c e. cc)
      (λ x at closes w c e. true≢false (sym is
      ∙ is_there (λ u. is_slot sources u ≡ false) (item_defined f i) v (none_made m n f a i (ap opens_none at ∙ closes_opens (access_kind_of x.op) closes)) made_here))
      (λ w c. made_stays w (source_at sources w))
    where
      allocated : (b : Bool) (k : Mark) → k.turns ≡ Some true → option_and_then (λ (x : Mark). x.turns) (when b k) ≡ Some false → ⊥
      allocated true k is e = let two : Some true ≡ Some false = sym is ∙ e in cc
      allocated false k is e = cc

      made_stays : (w : ValueId) (s : Source) → Each (λ x. StaysOn (turn_by d f (Allocation v) x)) (made_by w s)
      made_stays w (source.Slot trivial) = ((λ e. allocated (is_same w v) _ refl e), tt)
      made_stays w (source.Argument row trivial) = ((λ e. cc), tt)
      made_stays w (source.Object fields) = ((λ e. allocated (is_same w v) _ refl e), tt)
      made_stays w (source.Borrow of) = tt
      made_stays w (source.Upcast of) = tt
      made_stays w (source.Loan of) = tt
      made_stays w (source.Field of k trivial) = tt
      made_stays w (source.Part of k) = tt
      made_stays w source.Other = tt

  pub slot_once : (t : List Item) (i : Item) → IsRunTrail f (i ∷ t) → (v : ValueId) → has (slots_on d f t) v.0 ≡ true → has (item_defined f i) v.0 ≡ false
  slot_once t i h v there = by (has (item_defined f i) v.0) refl
    where
      is : is_slot sources v ≡ true
      is = is_there (λ u. is_slot sources u ≡ true) (slots_on d f t) v (are_slots d f t) there

      by : (b : Bool) → has (item_defined f i) v.0 ≡ b → b ≡ false
      by false e = refl
      by true e =
          let s = split_among (accesses_in d f i) (Allocates v) (made_among i v is e) in
          let new = allocated_once d f (accepted_in m n f a) t i h s.0 s.1 v s.2 is in
          let still : has (slots_behind sources s.0 (slots_on d f t)) v.0 ≡ true =
          has_behind d f v is s.0 (slots_on d f t) ∙ ap (turned_each (turn_by d f (Allocation v)) s.0) there
          ∙ stays_on (turn_by d f (Allocation v)) s.0
          (each_front (λ x. StaysOn (turn_by d f (Allocation v) x)) s.0 (Allocates v ∷ s.1)
          (subst (Each (λ x. StaysOn (turn_by d f (Allocation v) x))) s.2 (none_closed i v is e))) in
          absurd (true≢false (sym still ∙ new))

  -- ---- arguments

  abbrev pub is_argument : Source → Bool
  is_argument (source.Argument row trivial) = true
  is_argument _ = false

  field_none : (o : Option ValueId) (k : Option ℕ) (b : Bool) → is_argument (field_source o k b) ≡ false
  field_none None k b = refl
  field_none (Some v) None b = refl
  field_none (Some v) (Some k) b = refl

  part_none : (o : Option ValueId) (k : Option ℕ) → is_argument (part_source o k) ≡ false
  part_none None k = refl
  part_none (Some v) None = refl
  part_none (Some v) (Some k) = refl

  slot_none : (o : Option TypeName) → is_argument (slot_source d o) ≡ false
  slot_none None = refl
  slot_none (Some t) = refl

  object_none : (o : Option TypeName) → is_argument (object_source d o) ≡ false
  object_none None = refl
  object_none (Some t) = refl

  borrow_none : (o : Option ValueId) → is_argument (borrow_source o) ≡ false
  borrow_none None = refl
  borrow_none (Some v) = refl

  upcast_none : (o : Option ValueId) → is_argument (upcast_source o) ≡ false
  upcast_none None = refl
  upcast_none (Some v) = refl

  loan_none : (o : Option ValueId) → is_argument (loan_source o) ≡ false
  loan_none None = refl
  loan_none (Some v) = refl

  result_none : (k : AccessKind) (i : Inst) → is_argument (source_by k d i) ≡ false
  result_none access.NoAccess i = refl
  result_none access.AllocatesSlot i = slot_none i.ty
  result_none access.AllocatesObject i = object_none i.ty
  result_none access.DeallocatesSlot i = refl
  result_none access.LendsValue i = borrow_none (first_value i)
  result_none access.Upcasts i = upcast_none (first_value i)
  result_none access.LendsLocation i = loan_none (first_value i)
  result_none access.NamesField i = field_none (first_value i) (member_place d i.member) (is_trivial_member d i.member)
  result_none access.NamesMember i = part_none (first_value i) (member_place d i.member)
  result_none access.NamesElement i = part_none (first_value i) (element_place i.number)
  result_none access.Loads i = refl
  result_none access.Stores i = refl
  result_none access.Destroys i = refl
  result_none access.Passes i = refl

  module _ (v : ValueId) (is : is_argument (source_at sources v) ≡ true) where
    not_at_block : (e : EdgeId) (b : ℕ) → Contains (map arg_value (args_of f b)) v → Contains (item_defined f (item.Edge e)) v → ⊥
    not_at_block e zero c made_here = let same : item.Edge e ≡ item.Entry = parameters_of_entry m n f a (item.Edge e) v c made_here in cc
    not_at_block e (suc b) c made_here =
        let s = stands (map arg_value (args_of f (suc b))) v c in
        let x = argument_there (args_of f (suc b)) s.0 v s.1 in
        false≢true (sym (ap (λ w. is_argument (source_at sources w)) (sym x.2) ∙ ap is_argument (argument_rows m n f a (suc b) s.0 x.0 x.1).source) ∙ is)

    not_at_edge : (e : EdgeId) (o : Option Edge) → Contains (map arg_value (args_behind f o)) v → Contains (item_defined f (item.Edge e)) v → ⊥
    not_at_edge e None c made_here = nothing_in v c
    not_at_edge e (Some x) c made_here = not_at_block e x.block.0 c made_here

    not_at_inst : (p : PointId) (o : Option Inst) → inst_at f p ≡ o → Contains (results_in o) v → Contains (item_defined f (item.Inst p)) v → ⊥
    not_at_inst p None at c made_here = nothing_in v c
    not_at_inst p (Some x) at c made_here =
        let from = each_where_among (λ w. source_at sources w ≡ result_source d x) (item_defined f (item.Inst p)) v
        (results_so m n f a p x at) (among_contained v (item_defined f (item.Inst p)) made_here) in
        false≢true (sym (ap is_argument from ∙ result_none (access_kind_of x.op) x) ∙ is)

    entry_first : (t : List Item) → GoesOn t → IsRunTrail f (item.Entry ∷ t) → ⊥
    entry_first [] goes h = goes
    entry_first (item.Entry ∷ t) goes h = h.0
    entry_first (item.Inst p ∷ t) goes h = h.0
    entry_first (item.Edge e ∷ t) goes h = h.0
    entry_first (item.Exit p ∷ t) goes h = goes

    not_made : (t : List Item) (i : Item) → IsRunTrail f (i ∷ t) → GoesOn t → Contains (item_defined f i) v → ⊥
    not_made t item.Entry h goes c = entry_first t goes h
    not_made t (item.Inst p) h goes c = by (Contains-append_cases (results_in (inst_at f p)) [] v c)
      where
        by : Contains (results_in (inst_at f p)) v ⊎ Contains [] v → ⊥
        by (inl k) = not_at_inst p (inst_at f p) refl k c
        by (inr k) = nothing_in v k
    not_made t (item.Edge e) h goes c = not_at_edge e (edge_at f e) c c
    not_made t (item.Exit p) h goes c = nothing_in v c

    pub argument_once : (t : List Item) (i : Item) → IsRunTrail f (i ∷ t) → GoesOn t → has (item_defined f i) v.0 ≡ false
    argument_once t i h goes = by (has (item_defined f i) v.0) refl
      where
        by : (b : Bool) → has (item_defined f i) v.0 ≡ b → b ≡ false
        by false e = refl
        by true e = absurd (not_made t i h goes (contained_among v (item_defined f i) (has_among (item_defined f i) v e)))

pub slots_made_once : AreSlotsMadeOnce
slots_made_once m n f a t i h slot there = slot_once m n f a t i h slot there

pub arguments_made_once : AreArgumentsMadeOnce
arguments_made_once m n f a t i h goes v row trivial is = argument_once m n f a v (ap (is_argument m n f a) is) t i h goes
