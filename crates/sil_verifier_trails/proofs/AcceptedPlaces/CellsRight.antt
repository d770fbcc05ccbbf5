-- Each operation of the next item finds its cell as its row needs it, and leaves it so.
use Rattle.std.proofs.Common.{◌≡◌, inl, inr, ℕ, List, [], ◌∷◌, ◌++◌, append_assoc, map, refl, sym, ap, ◌∙◌, subst, Bool, true, false, ◌&&◌, ◌||◌, Option, Some, None, eq-eqb}
use Rattle.std.specs.Prelude.{Contains, cond, flat_map, option_and_then, unwrap_or}
use Rattle.std.proofs.lemmas.Bool.{and_parts, false≢true}
use Rattle.argument_conventions.specs.declared.row.AddressRow.{AddressRow}
use Rattle.argument_conventions.specs.declared.row.Content.{Content}
use Rattle.argument_conventions.specs.declared.row.Content.TheVariants.{Empty, Full}
use Rattle.sil_verifier_values.specs.memory_rules_accesses.Accesses.{begun, deallocations_of, does_of, ended, made, made_by, mentions_of}
use Rattle.sil_verifier_values.specs.memory_rules_accesses.Locations.{cell_of, location_of, meet, overlap}
use Rattle.sil_verifier_values.specs.memory_rules_accesses.Operations.{access_kind_of, addresses_of, deallocates_by, operations_of}
use Rattle.sil_verifier_values.specs.memory_rules_accesses.Rows.{has_operation, is_part}
use Rattle.sil_verifier_values.specs.memory_rules_accesses.Sources.{is_trivial_at, loan_source, result_source, source_at, source_by, sources_of}
use Rattle.sil_verifier_values.specs.memory_rules_accesses.declared.access.Access.{Access}
use Rattle.sil_verifier_values.specs.memory_rules_accesses.declared.access.Access.TheVariants.{Deallocates, Does}
use Rattle.sil_verifier_values.specs.memory_rules_accesses.declared.access.Operated.{Operated}
use Rattle.sil_verifier_values.specs.memory_rules_accesses.declared.access.Operation.{Operation}
use Rattle.sil_verifier_values.specs.memory_rules_accesses.declared.access.Operation.TheVariants.{Handed}
use Rattle.sil_verifier_values.specs.memory_rules_accesses.declared.columns.AccessKind.{AccessKind}
use Rattle.sil_verifier_values.specs.memory_rules_accesses.declared.columns.AccessKind.TheVariants as access
use Rattle.sil_verifier_values.specs.memory_rules_accesses.declared.location.Cell.{Cell}
use Rattle.sil_verifier_values.specs.memory_rules_accesses.declared.location.Location.{Location}
use Rattle.sil_verifier_values.specs.memory_rules_accesses.declared.source.Source.{Source}
use Rattle.sil_verifier_values.specs.memory_rules_parts.Contents.{at_location, counts_at_part, left_mark, operation_mark, same_cell, same_field}
use Rattle.sil_verifier_values.specs.memory_rules_parts.Switches.{when}
use Rattle.sil_verifier_values.specs.memory_rules_parts.declared.part.Part.{Part}
use Rattle.sil_verifier_values.specs.memory_rules_parts.declared.part.Part.TheVariants.{Contents}
use Rattle.sil_verifier_values.specs.ownership_kinds_origins.Facts.{facts_in}
use Rattle.sil_verifier_trails.specs.RunTrails.inner.RunTrails.{IsRunTrail}
use Rattle.sil_verifier_trails.specs.RunTrails.inner.Switched.{finds}
use Rattle.sil_verifier_trails.specs.AcceptedMemory.inner.PartTrails.{IsPartOf, accesses_in, meant}
use Rattle.sil_verifier_trails.proofs.AcceptedMemory.InSlots.{when_quiet}
use Rattle.sil_verifier_trails.proofs.AcceptedMemory.PartsFollowed.{parts_followed}
use Rattle.sil_verifier_trails.proofs.AcceptedMemory.PartsTurned.{IsUnturned, turn_by}
use Rattle.sil_verifier_trails.proofs.AcceptedMemory.Turning.{turned_each}
use Rattle.sil_verifier_trails.proofs.AcceptedTrails.Tests.{or_right}
use Rattle.sil_verifier_values.specs.inner.Known.{IsAcceptedBody}
use Rattle.sil_verifier_values.proofs.Accepted.{typed}
use Rattle.sil_cfg_items.specs.Items.{item_defined, item_taken}
use Rattle.sil_cfg_items.specs.Parts.{inst_at, item_inst}
use Rattle.numbered_form.specs.Lists.{Each}
use Rattle.sil_verifier_values.specs.ownership_kinds_chains.OwnershipMarks.Marks.{marks_of}
use Rattle.sil_verifier_values.specs.reach_engine_marks.declared.path_patterns.mark.Mark.{Mark}
use Rattle.numbered_form.specs.inner.Parts.{has_operands}
use Rattle.numbered_form.proofs.PointChecks.Among.{Among, among_contained, among_right, contained_among}
use Rattle.sil_ast.specs.declared.function.Function.{Function}
use Rattle.sil_ast.specs.declared.inst.Inst.{Inst}
use Rattle.sil_ast.specs.declared.module.Module.{Module}
use Rattle.sil_ast.specs.declared.place.PointId.{PointId}
use Rattle.sil_ast.specs.declared.place.ValueId.{ValueId}
use Rattle.sil_cfg.specs.declared.item.Item.{Item}
use Rattle.sil_cfg.specs.declared.item.Item.TheVariants as item
use Rattle.sil_verifier_values.specs.sil_types_declarations.TypeDefinitions.Declarations.{Declarations, declarations_of}
use Rattle.numbered_form.specs.ValueTables.FirstValue.{first_value}
use Rattle.sil_verifier_trails.specs.AcceptedPlaces.inner.Cells.{AreOperationsRight, AreOthersFull, IsFoundSo, is_at_cell, mark_at, operates_on}
use Rattle.sil_verifier_trails.proofs.AcceptedPlaces.CellTurns.{StaysFull, full_quiet, part_stays, parts_where_apart, same_root, shared_stay, unfollowed_needs}
use Rattle.sil_verifier_trails.proofs.AcceptedPlaces.Done.{IsDoneBy, IsRow, alone, done_by, none_handed_by_row, of_call, of_row, operates, passes}
use Rattle.sil_verifier_trails.proofs.AcceptedPlaces.Followed.{access_finds, item_leaves}
use Rattle.sil_verifier_trails.proofs.AcceptedPlaces.Items.{IsOfMemory, all_append, all_of, ends_quiet, item_comes, mentions_quiet, turn_step, turned_all}
use Rattle.sil_verifier_trails.proofs.AcceptedPlaces.ItemStacks.{accepted_in}
use Rattle.sil_verifier_trails.proofs.AcceptedPlaces.Lists.{each_so, each_split, mapped_append, split_among}
use Rattle.sil_verifier_trails.proofs.AcceptedPlaces.Made.{results_so}
use Rattle.sil_verifier_trails.proofs.AcceptedPlaces.OperationsRight.{are_apart, rows_right, stands_somewhere}

left_unturned : (trivial : Bool) (left : Option Content) → option_and_then (λ (m : Mark). m.turns) (left_mark trivial left) ≡ None
left_unturned trivial None = refl
left_unturned trivial (Some Full) = refl
left_unturned true (Some Empty) = refl
left_unturned false (Some Empty) = refl

not_both : (k : AccessKind) → operates k ≡ true → passes k ≡ true → ⊥
not_both access.Passes e h = false≢true e
not_both _ e h = false≢true h

-- by its row an instruction does something to locations
abbrev pub acts : AccessKind → Bool
acts k = operates k || passes k

-- such a one makes neither slots nor objects, and deallocates nothing
loan_made : (v : ValueId) (o : Option ValueId) → made_by v (loan_source o) ≡ []
loan_made v None = refl
loan_made v (Some w) = refl

acts_makes : (k : AccessKind) → acts k ≡ true → (d : Declarations) (i : Inst) (v : ValueId) → made_by v (source_by k d i) ≡ []
acts_makes access.LendsLocation e d i v = loan_made v (first_value i)
acts_makes access.Loads e d i v = refl
acts_makes access.Stores e d i v = refl
acts_makes access.Destroys e d i v = refl
acts_makes access.Passes e d i v = refl
acts_makes _ e d i v = absurd (false≢true e)

acts_closes : (k : AccessKind) → acts k ≡ true → deallocates_by k ≡ false
acts_closes access.LendsLocation e = refl
acts_closes access.Loads e = refl
acts_closes access.Stores e = refl
acts_closes access.Destroys e = refl
acts_closes access.Passes e = refl
acts_closes _ e = absurd (false≢true e)

flat_empty : {A B : Type 0} (g : A → List B) (xs : List A) → Each (λ x. g x ≡ []) xs → flat_map g xs ≡ []
flat_empty g [] h = refl
flat_empty g (x ∷ xs) h = ap (λ ys. ys ++ flat_map g xs) h.0 ∙ flat_empty g xs h.1

module _ (m : Module) (n : ℕ) (f : Function) (a : IsAcceptedBody m n f) where
  abbrev pub d : Declarations
  d = declarations_of m

  abbrev pub sources : List Source
  sources = sources_of d f

  module _ (cell : Cell) (trivial : Bool) (left : Option Content) where
    abbrev pub held : Part
    held = Contents cell trivial left

    abbrev pub turn : Access → Option Bool
    turn x = turn_by d f held x

    pub unturned : IsUnturned (Contents cell trivial left)
    unturned = left_unturned trivial left

    pub by_memory : IsOfMemory (turn_step turn)
    by_memory = record { ends = λ v x. refl; begins = λ v x. refl; mentions = λ v b x. refl }

    -- an operation at another cell leaves it
    away_by : (o : Operation) (l : Option Location) → is_at_cell sources cell l ≡ false → option_and_then (λ (x : Mark). x.turns) (at_location sources cell o l) ≡ None
    away_by o None e = refl
    away_by o (Some l) e =
        ap (λ b. option_and_then (λ (x : Mark). x.turns) (when b (operation_mark (is_trivial_at sources l.root) (counts_at_part sources l o) o))) e

    pub away : (o : Operated) → operates_on sources cell o ≡ false → turn (Does o) ≡ None
    away o e = away_by o.operation (location_of sources o.address) e

    -- so does one that leaves a full place full
    handed_by : (row : AddressRow) → StaysFull row → (l : Option Location) → option_and_then (λ (x : Mark). x.turns) (at_location sources cell (Handed row) l) ≡ None
    handed_by row full None = refl
    handed_by row full (Some l) = when_quiet (same_cell (cell_of sources l.root) cell) _ (full_quiet (is_trivial_at sources l.root) row full.0 full.1)

    handed_quiet : (o : Operated) (row : AddressRow) → o.operation ≡ Handed row → StaysFull row → turn (Does o) ≡ None
    handed_quiet o row is full =
        ap (λ x. option_and_then (λ (x : Mark). x.turns) (at_location sources cell x (location_of sources o.address))) is ∙ handed_by row full (location_of sources o.address)

    -- where an operation at the cell is
    located : (o : Operated) → (x : Option Location) → location_of sources o.address ≡ x → is_at_cell sources cell x ≡ true
        → (l : Location) × (location_of sources o.address ≡ Some l) × (same_cell (cell_of sources l.root) cell ≡ true)
    located o None is e = absurd (false≢true e)
    located o (Some l) is e = (l, is, e)

    module _ (p : PointId) (i : Inst) (is : inst_at f p ≡ Some i) where
      abbrev IsQuiet : Operated → Type 0
      IsQuiet o = turn (Does o) ≡ None

      handed_of : passes (access_kind_of i.op) ≡ true → (o : Operated) → Contains (operations_of i) o → (row : AddressRow) × (o.operation ≡ Handed row) × IsRow row
      handed_of call o c = by (done_by i o c)
        where
          by : IsDoneBy i o → (row : AddressRow) × (o.operation ≡ Handed row) × IsRow row
          by (of_row e r) = absurd (not_both (access_kind_of i.op) e call)
          by (of_call row e so k) = (row, e, so)

      has_row : (o : Operated) → Contains (operations_of i) o → (row : AddressRow) → o.operation ≡ Handed row → (l : Location) → location_of sources o.address ≡ Some l
          → has_operation sources l (Handed row) ≡ true
      has_row o c row same l at =
          ap (has_operation sources l) (sym same) ∙ rows_right d f (accepted_in m n f a) (item.Inst p) i is o c l at

      -- two that are handed over at the cell leave it full
      pair_full : (before between rest : List Operated) (x y : Operated) → passes (access_kind_of i.op) ≡ true → operations_of i ≡ before ++ x ∷ (between ++ y ∷ rest)
          → operates_on sources cell x ≡ true → operates_on sources cell y ≡ true → IsQuiet x × IsQuiet y
      pair_full before between rest x y call parts at_x at_y = by (one.0.shared && other.0.shared) refl
        where
          there_x : Contains (operations_of i) x
          there_x = contained_among x (operations_of i) (subst (Among x) (sym parts) (among_right x before _ (inl refl)))

          there_y : Contains (operations_of i) y
          there_y =
              contained_among y (operations_of i)
              (subst (Among y) (sym parts) (among_right y before _ (inr (among_right y between _ (inl refl)))))

          one : (row : AddressRow) × (x.operation ≡ Handed row) × IsRow row
          one = handed_of call x there_x

          other : (row : AddressRow) × (y.operation ≡ Handed row) × IsRow row
          other = handed_of call y there_y

          from : (l : Location) × (location_of sources x.address ≡ Some l) × (same_cell (cell_of sources l.root) cell ≡ true)
          from = located x (location_of sources x.address) refl at_x

          to : (l : Location) × (location_of sources y.address ≡ Some l) × (same_cell (cell_of sources l.root) cell ≡ true)
          to = located y (location_of sources y.address) refl at_y

          has_x : has_operation sources from.0 (Handed one.0) ≡ true
          has_x = has_row x there_x one.0 one.1 from.0 from.1

          has_y : has_operation sources to.0 (Handed other.0) ≡ true
          has_y = has_row y there_y other.0 other.1 to.0 to.1

          both : StaysFull one.0 → StaysFull other.0 → IsQuiet x × IsQuiet y
          both first second = (handed_quiet x one.0 one.1 first, handed_quiet y other.0 other.1 second)

          by : (b : Bool) → (one.0.shared && other.0.shared) ≡ b → IsQuiet x × IsQuiet y
          by true e =
              let shares = and_parts one.0.shared other.0.shared e in both (shared_stay one.0 one.2 shares.0) (shared_stay other.0 other.2 shares.1)
          by false e =
              let clear = are_apart d f (accepted_in m n f a) (item.Inst p) i is before between rest x y one.0 other.0 parts one.1 other.1 e in
              let apart : overlap from.0 to.0 ≡ false =
              sym (ap (λ l. meet l (location_of sources y.address)) from.1 ∙ ap (meet (Some from.0)) to.1) ∙ clear in
              let same = same_root sources from.0 one.0 cell has_x from.2 ∙ sym (same_root sources to.0 other.0 cell has_y to.2) in
              let are_parts = parts_where_apart sources from.0 to.0 same apart in
              both (part_stays sources from.0 one.0 one.2 has_x are_parts.0) (part_stays sources to.0 other.0 other.2 has_y are_parts.1)

      -- an operation at the cell, and others that leave it
      record Around (o : Operated) : Type 0 where
        front : List Operated
        rest : List Operated
        parts : operations_of i ≡ front ++ o ∷ rest
        before : Each IsQuiet front
        behind : Each IsQuiet rest

      quiet_where : (o : Operated) (b : Bool) → operates_on sources cell o ≡ b → (operates_on sources cell o ≡ true → IsQuiet o) → IsQuiet o
      quiet_where o true e h = h e
      quiet_where o false e h = away o e

      around_call : passes (access_kind_of i.op) ≡ true → (o : Operated) → operates_on sources cell o ≡ true → (front rest : List Operated)
          → operations_of i ≡ front ++ o ∷ rest → Around o
      around_call call o at front rest parts = record {
        front = front;
        rest = rest;
        parts = parts;
        before = each_split IsQuiet front (λ one two x e. quiet_where x (operates_on sources cell x) refl
            (λ at_x. (pair_full one two rest x o call
            (parts ∙ ap (λ xs. xs ++ o ∷ rest) e ∙ append_assoc one (x ∷ two) (o ∷ rest)) at_x at).0));
        behind = each_split IsQuiet rest (λ one two x e. quiet_where x (operates_on sources cell x) refl
            (λ at_x. (pair_full front one two o x call (parts ∙ ap (λ xs. front ++ o ∷ xs) e) at at_x).1));
      }

      has_its_operands : has_operands i.op i.operands ≡ true
      has_its_operands = let at = stands_somewhere f (item.Inst p) i is in ((typed m n f a).insts at.0 at.1 i at.2).parts.operands

      around : (o : Operated) → Contains (operations_of i) o → operates_on sources cell o ≡ true → Around o
      around o c at = by (done_by i o c)
        where
          by : IsDoneBy i o → Around o
          by (of_row e r) =
              let one = alone i i.op refl e has_its_operands in
              let same : o ≡ one.0 = only (subst (Among o) one.1 (among_contained o (operations_of i) c)) in
              record { front = []; rest = []; parts = one.1 ∙ ap (λ z. z ∷ []) (sym same); before = tt; behind = tt }
            where
              only : {z : Operated} → Among o (z ∷ []) → o ≡ z
              only (inl e) = e
              only (inr h) = absurd h
          by (of_call row e so call) =
              let s = split_among (operations_of i) o (among_contained o (operations_of i) c) in around_call call o at s.0 s.1 s.2

      does_act : (o : Operated) → Contains (operations_of i) o → acts (access_kind_of i.op) ≡ true
      does_act o c = by (done_by i o c)
        where
          by : IsDoneBy i o → acts (access_kind_of i.op) ≡ true
          by (of_row e r) = ap (λ b. b || passes (access_kind_of i.op)) e
          by (of_call row e so call) = or_right (operates (access_kind_of i.op)) (passes (access_kind_of i.op)) call

      all_quiet : (os : List Operated) → Each IsQuiet os → (on : Bool) → all_of (turn_step turn) (map Does os) on ≡ on
      all_quiet [] h on = refl
      all_quiet (o ∷ os) h on = ap (λ t. all_of (turn_step turn) (map Does os) (unwrap_or t on)) h.0 ∙ all_quiet os h.1 on

      none_made : acts (access_kind_of i.op) ≡ true → flat_map (made sources) (item_defined f (item.Inst p)) ≡ []
      none_made acting =
          flat_empty (made sources) (item_defined f (item.Inst p))
          (each_so (λ v. source_at sources v ≡ result_source d i) (λ v. made sources v ≡ [])
          (λ v e. ap (made_by v) e ∙ acts_makes (access_kind_of i.op) acting d i v) (item_defined f (item.Inst p)) (results_so m n f a p i is))

      none_closed : acts (access_kind_of i.op) ≡ true → deallocations_of (item_inst f (item.Inst p)) ≡ []
      none_closed acting =
          ap deallocations_of is ∙ ap (λ b. cond b (map Deallocates (addresses_of i)) []) (acts_closes (access_kind_of i.op) acting)

      module _ (there : IsPartOf d f held) (t : List Item) (h : IsRunTrail f (item.Inst p ∷ t)) (o : Operated) (c : Contains (operations_of i) o) (l : Location)
          (at : location_of sources o.address ≡ Some l) (same : same_cell (cell_of sources l.root) cell ≡ true) where
        here : operates_on sources cell o ≡ true
        here = ap (is_at_cell sources cell) at ∙ same

        means : meant d f held (Does o) ≡ Some (mark_at d f l o.operation)
        means =
            ap (at_location sources cell o.operation) at
            ∙ ap (λ b. when b (operation_mark (is_trivial_at sources l.root) (counts_at_part sources l o.operation) o.operation)) same
            ∙ ap (λ b. Some (operation_mark (is_trivial_at sources l.root) (b && is_part l) o.operation))
            (rows_right d f (accepted_in m n f a) (item.Inst p) i is o c l at)

        its : Around o
        its = around o c here

        does : does_of (item_inst f (item.Inst p)) ≡ map Does its.front ++ Does o ∷ map Does its.rest
        does = ap does_of is ∙ ap (map Does) its.parts ∙ mapped_append Does its.front (o ∷ its.rest)

        abbrev ends : List Access
        ends = flat_map ended (marks_of (facts_in d f) f (item.Inst p))

        abbrev mentions : List Access
        mentions = mentions_of (item_inst f (item.Inst p)) (item_taken f (item.Inst p))

        abbrev last : List Access
        last = deallocations_of (item_inst f (item.Inst p)) ++ (flat_map (made sources) (item_defined f (item.Inst p)) ++ flat_map begun (marks_of (facts_in d f) f (item.Inst p)))

        abbrev front : List Access
        front = ends ++ (mentions ++ map Does its.front)

        parts : accesses_in d f (item.Inst p) ≡ front ++ Does o ∷ (map Does its.rest ++ last)
        parts =
            ap (λ xs. ends ++ (mentions ++ (xs ++ last))) does
            ∙ ap (λ xs. ends ++ (mentions ++ xs)) (append_assoc (map Does its.front) (Does o ∷ map Does its.rest) last)
            ∙ ap (λ xs. ends ++ xs) (sym (append_assoc mentions (map Does its.front) (Does o ∷ (map Does its.rest ++ last))))
            ∙ sym (append_assoc ends (mentions ++ map Does its.front) (Does o ∷ (map Does its.rest ++ last)))

        front_quiet : (on : Bool) → turned_each turn front on ≡ on
        front_quiet on =
            turned_all turn front on ∙ all_append (turn_step turn) ends (mentions ++ map Does its.front) on
            ∙ ap (all_of (turn_step turn) (mentions ++ map Does its.front)) (ends_quiet (turn_step turn) by_memory (marks_of (facts_in d f) f (item.Inst p)) on)
            ∙ all_append (turn_step turn) mentions (map Does its.front) on
            ∙ ap (all_of (turn_step turn) (map Does its.front))
            (mentions_quiet (turn_step turn) by_memory (item_inst f (item.Inst p)) (item_taken f (item.Inst p)) on)
            ∙ all_quiet its.front its.before on

        turns : turn (Does o) ≡ (mark_at d f l o.operation).turns
        turns = ap (option_and_then (λ (x : Mark). x.turns)) means

        does_turn : (on : Bool) → all_of (turn_step turn) (does_of (item_inst f (item.Inst p))) on ≡ unwrap_or (mark_at d f l o.operation).turns on
        does_turn on =
            ap (λ xs. all_of (turn_step turn) xs on) does
            ∙ all_append (turn_step turn) (map Does its.front) (Does o ∷ map Does its.rest) on
            ∙ ap (all_of (turn_step turn) (Does o ∷ map Does its.rest)) (all_quiet its.front its.before on)
            ∙ all_quiet its.rest its.behind (unwrap_or (turn (Does o)) on)
            ∙ ap (λ x. unwrap_or x on) turns

        pub found_so : IsFoundSo d f t (item.Inst p) held (mark_at d f l o.operation)
        found_so =
            let was = parts_followed d f (accepted_in m n f a) held there t h.1 in
            let acting = does_act o c in
            record {
              on = was.0;
              was = was.1;
              found = subst (λ b. finds (mark_at d f l o.operation).needs b ≡ true) (front_quiet was.0)
                  (access_finds d f (accepted_in m n f a) held there t (item.Inst p) h front (map Does its.rest ++ last) (Does o) (mark_at d f l o.operation) parts means was.0 was.1);
              left =
                  item_leaves d f (accepted_in m n f a) held there unturned t (item.Inst p) h was.0 was.1
                  ∙ ap Some (turned_all turn (accesses_in d f (item.Inst p)) was.0 ∙ item_comes (turn_step turn) by_memory sources (facts_in d f) f (item.Inst p) was.0
                  ∙ ap (λ xs. all_of (turn_step turn) xs (all_of (turn_step turn) (deallocations_of (item_inst f (item.Inst p))) (all_of (turn_step turn) (does_of (item_inst f (item.Inst p))) was.0)))
                  (none_made acting)
                  ∙ ap (λ xs. all_of (turn_step turn) xs (all_of (turn_step turn) (does_of (item_inst f (item.Inst p))) was.0)) (none_closed acting)
                  ∙ does_turn was.0);
            }

pub itself : (c : Cell) → same_cell c c ≡ true
itself c = ap (λ b. b && same_field c.field c.field) (eq-eqb c.subject.0 c.subject.0 refl) ∙ field c.field
  where
    field : (x : Option ℕ) → same_field x x ≡ true
    field None = refl
    field (Some k) = eq-eqb k k refl

pub operations_right : AreOperationsRight
operations_right m n f a t p h o l done trivial left there =
    found_so m n f a (cell_of (sources_of (declarations_of m) f) l.root) trivial left p done.inst done.is there t h o done.among l done.at
    (itself (cell_of (sources_of (declarations_of m) f) l.root))

pub others_full : AreOthersFull
others_full m n f a p o l done none =
    let sources = sources_of (declarations_of m) f in
    unfollowed_needs sources l.root (source_at sources l.root) o.operation (λ row e. by row e (done_by done.inst o done.among)) none (is_part l)
    (rows_right (declarations_of m) f (accepted_in m n f a) (item.Inst p) done.inst done.is o done.among l done.at) (is_trivial_at sources l.root) (is_part l)
  where
    by : (row : AddressRow) → o.operation ≡ Handed row → IsDoneBy done.inst o → IsRow row
    by row e (of_row k r) = absurd (none_handed_by_row (access_kind_of done.inst.op) done.inst.qualifier row (r ∙ ap (λ z. Some z) e))
    by row e (of_call r is so call) = let same : r ≡ row = cc in subst IsRow same so
