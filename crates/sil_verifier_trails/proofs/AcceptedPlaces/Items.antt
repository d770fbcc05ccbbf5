-- What the accesses of an item come to, one after another, where values that end, begin or are mentioned change nothing.
use Rattle.std.proofs.Common.{◌≡◌, List, [], ◌∷◌, ◌++◌, append_assoc, map, refl, sym, ap, ◌∙◌, Bool, true, false, inl, inr, Option, Some, None}
use Rattle.std.specs.Prelude.{Contains, cond, flat_map, unwrap_or}
use Rattle.sil_verifier_values.specs.memory_rules_accesses.Accesses.{accesses_of, allowance_of, begins_by, begun, deallocations_of, does_of, ended, ends_by, made, mentioned, mentions_of}
use Rattle.sil_verifier_values.specs.memory_rules_accesses.Operations.{addresses_of, deallocates, operations_of}
use Rattle.sil_verifier_values.specs.memory_rules_accesses.declared.access.Access.{Access}
use Rattle.sil_verifier_values.specs.memory_rules_accesses.declared.access.Access.TheVariants.{Begins, Deallocates, Does, Ends, Mentions}
use Rattle.sil_verifier_values.specs.memory_rules_accesses.declared.access.Operated.{Operated}
use Rattle.sil_verifier_values.specs.memory_rules_accesses.declared.columns.Allowance.{Allowance}
use Rattle.sil_verifier_values.specs.memory_rules_accesses.declared.source.Source.{Source}
use Rattle.sil_verifier_trails.proofs.AcceptedMemory.Turning.{turned_each}
use Rattle.sil_verifier_trails.proofs.AcceptedTrails.Tests.{each_of_both}
use Rattle.sil_cfg_items.specs.Items.{item_defined, item_taken}
use Rattle.sil_cfg_items.specs.Parts.{item_inst}
use Rattle.sil_cfg_items.specs.declared.taken.Taken.{Taken}
use Rattle.numbered_form.specs.Lists.{Each}
use Rattle.sil_verifier_values.specs.ownership_kinds_chains.declared.ownership_chains.facts.Facts.{Facts}
use Rattle.sil_verifier_values.specs.ownership_kinds_chains.OwnershipMarks.Marks.{marks_of}
use Rattle.sil_verifier_values.specs.ownership_kinds_chains.declared.ownership_marks.mark.Mark.{Mark}
use Rattle.sil_verifier_values.specs.ownership_kinds_chains.declared.ownership_marks.mark.MarkSort.{MarkSort}
use Rattle.sil_verifier_values.specs.ownership_kinds_chains.declared.ownership_marks.mark.MarkSort.TheVariants.{Begin, End, Use}
use Rattle.numbered_form.proofs.PointChecks.Among.{among_contained, contained_among}
use Rattle.sil_ast.specs.declared.function.Function.{Function}
use Rattle.sil_ast.specs.declared.inst.Inst.{Inst}
use Rattle.sil_ast.specs.declared.place.ValueId.{ValueId}
use Rattle.sil_cfg.specs.declared.item.Item.{Item}
use Rattle.sil_verifier_trails.proofs.AcceptedPlaces.Lists.{mapped_append, split_among}
use Rattle.sil_verifier_trails.proofs.AcceptedPlaces.PartsThere.{each_flat}

module _ {X : Type 0} (step : Access → X → X) where
  abbrev pub all_of : List Access → X → X
  all_of [] x = x
  all_of (a ∷ accesses) x = all_of accesses (step a x)

  pub all_append : (front rest : List Access) (x : X) → all_of (front ++ rest) x ≡ all_of rest (all_of front x)
  all_append [] rest x = refl
  all_append (a ∷ front) rest x = all_append front rest (step a x)

  pub record IsOfMemory : Type 0 where
    pub ends : (v : ValueId) (x : X) → step (Ends v) x ≡ x
    pub begins : (v : ValueId) (x : X) → step (Begins v) x ≡ x
    pub mentions : (v : ValueId) (a : Allowance) (x : X) → step (Mentions v a) x ≡ x

  module _ (by : IsOfMemory) where
    ended_quiet : (v : ValueId) (sort : MarkSort) (x : X) → all_of (ends_by v sort) x ≡ x
    ended_quiet v End x = by.ends v x
    ended_quiet v Use x = refl
    ended_quiet v Begin x = refl

    begun_quiet : (v : ValueId) (sort : MarkSort) (x : X) → all_of (begins_by v sort) x ≡ x
    begun_quiet v End x = refl
    begun_quiet v Use x = refl
    begun_quiet v Begin x = by.begins v x

    pub ends_quiet : (marks : List Mark) (x : X) → all_of (flat_map ended marks) x ≡ x
    ends_quiet [] x = refl
    ends_quiet (m ∷ marks) x =
        all_append (ended m) (flat_map ended marks) x ∙ ap (all_of (flat_map ended marks)) (ended_quiet m.subject m.sort x) ∙ ends_quiet marks x

    begins_quiet : (marks : List Mark) (x : X) → all_of (flat_map begun marks) x ≡ x
    begins_quiet [] x = refl
    begins_quiet (m ∷ marks) x =
        all_append (begun m) (flat_map begun marks) x ∙ ap (all_of (flat_map begun marks)) (begun_quiet m.subject m.sort x) ∙ begins_quiet marks x

    pub each_mentioned : (a : Allowance) (ts : List Taken) (x : X) → all_of (map (mentioned a) ts) x ≡ x
    each_mentioned a [] x = refl
    each_mentioned a (t ∷ ts) x = ap (all_of (map (mentioned a) ts)) (by.mentions t.value a x) ∙ each_mentioned a ts x

    pub mentions_quiet : (o : Option Inst) (ts : List Taken) (x : X) → all_of (mentions_of o ts) x ≡ x
    mentions_quiet None ts x = refl
    mentions_quiet (Some i) ts x = at (deallocates i)
      where
        at : (b : Bool) → all_of (cond b [] (map (mentioned (allowance_of i.op)) ts)) x ≡ x
        at true = refl
        at false = each_mentioned (allowance_of i.op) ts x

    -- what an item comes to: what it does to locations, what it deallocates and what it makes
    abbrev pub made_behind : List Source → Function → Item → X → X
    made_behind sources f i x =
        all_of (flat_map (made sources) (item_defined f i)) (all_of (deallocations_of (item_inst f i)) (all_of (does_of (item_inst f i)) x))

    pub item_comes : (sources : List Source) (facts : ValueId → Option Facts) (f : Function) (i : Item) (x : X)
        → all_of (accesses_of sources facts f i) x ≡ made_behind sources f i x
    item_comes sources facts f i x =
        let marks : List Mark = marks_of facts f i in
        let one : List Access = mentions_of (item_inst f i) (item_taken f i) in
        let two : List Access = does_of (item_inst f i) in
        let three : List Access = deallocations_of (item_inst f i) in
        let four : List Access = flat_map (made sources) (item_defined f i) in
        let last : List Access = flat_map begun marks in
        all_append (flat_map ended marks) (one ++ (two ++ (three ++ (four ++ last)))) x
        ∙ ap (all_of (one ++ (two ++ (three ++ (four ++ last))))) (ends_quiet marks x)
        ∙ all_append one (two ++ (three ++ (four ++ last))) x
        ∙ ap (all_of (two ++ (three ++ (four ++ last)))) (mentions_quiet (item_inst f i) (item_taken f i) x)
        ∙ all_append two (three ++ (four ++ last)) x
        ∙ all_append three (four ++ last) (all_of two x)
        ∙ all_append four last (all_of three (all_of two x))
        ∙ begins_quiet marks (all_of four (all_of three (all_of two x)))

-- turns are such steps
abbrev pub turn_step : (Access → Option Bool) → Access → Bool → Bool
turn_step turn a on = unwrap_or (turn a) on

pub turned_all : (turn : Access → Option Bool) (accesses : List Access) (on : Bool) → turned_each turn accesses on ≡ all_of (turn_step turn) accesses on
turned_all turn [] on = refl
turned_all turn (a ∷ accesses) on = turned_all turn accesses (unwrap_or (turn a) on)

-- ---- what holds of each access of an item

pub each_contained : {A : Type 0} (P : A → Type 0) (xs : List A) → ((x : A) → Contains xs x → P x) → Each P xs
each_contained P [] h = tt
each_contained P (x ∷ xs) h =
    (h x (contained_among x (x ∷ xs) (inl refl)), each_contained P xs (λ y c. h y (contained_among y (x ∷ xs) (inr (among_contained y xs c)))))

pub each_mapped : {A B : Type 0} (P : B → Type 0) (g : A → B) (xs : List A) → Each (λ x. P (g x)) xs → Each P (map g xs)
each_mapped P g [] h = tt
each_mapped P g (x ∷ xs) h = (h.0, each_mapped P g xs h.1)

module _ (P : Access → Type 0) (sources : List Source) (facts : ValueId → Option Facts) (f : Function) (i : Item) (mentions : (v : ValueId) (a : Allowance) → P (Mentions v a))
    (does : (x : Inst) → item_inst f i ≡ Some x → (o : Operated) → Contains (operations_of x) o → P (Does o))
    (deallocates_one : (x : Inst) → item_inst f i ≡ Some x → deallocates x ≡ true → (v : ValueId) → Contains (addresses_of x) v → P (Deallocates v))
    (makes_one : (v : ValueId) → Contains (item_defined f i) v → Each P (made sources v)) where
  all_mentions : (o : Option Inst) (ts : List Taken) → Each P (mentions_of o ts)
  all_mentions None ts = tt
  all_mentions (Some x) ts = at (deallocates x)
    where
      each : (ts : List Taken) → Each (λ t. P (mentioned (allowance_of x.op) t)) ts
      each [] = tt
      each (t ∷ ts) = (mentions t.value (allowance_of x.op), each ts)

      at : (b : Bool) → Each P (cond b [] (map (mentioned (allowance_of x.op)) ts))
      at true = tt
      at false = each_mapped P (mentioned (allowance_of x.op)) ts (each ts)

  all_does : (o : Option Inst) → item_inst f i ≡ o → Each P (does_of o)
  all_does None is = tt
  all_does (Some x) is = each_mapped P Does (operations_of x) (each_contained (λ o. P (Does o)) (operations_of x) (does x is))

  all_deallocations : (o : Option Inst) → item_inst f i ≡ o → Each P (deallocations_of o)
  all_deallocations None is = tt
  all_deallocations (Some x) is = at (deallocates x) refl
    where
      at : (b : Bool) → deallocates x ≡ b → Each P (cond b (map Deallocates (addresses_of x)) [])
      at true e = each_mapped P Deallocates (addresses_of x) (each_contained (λ v. P (Deallocates v)) (addresses_of x) (deallocates_one x is e))
      at false e = tt

  pub accesses_join : Each P (flat_map ended (marks_of facts f i)) → Each P (flat_map begun (marks_of facts f i)) → Each P (accesses_of sources facts f i)
  accesses_join ends begins =
      each_of_both P (flat_map ended (marks_of facts f i)) _ ends
      (each_of_both P (mentions_of (item_inst f i) (item_taken f i)) _ (all_mentions (item_inst f i) (item_taken f i))
      (each_of_both P (does_of (item_inst f i)) _ (all_does (item_inst f i) refl)
      (each_of_both P (deallocations_of (item_inst f i)) _ (all_deallocations (item_inst f i) refl)
      (each_of_both P (flat_map (made sources) (item_defined f i)) _
      (each_flat P (made sources) (item_defined f i) (each_contained (λ v. Each P (made sources v)) (item_defined f i) makes_one)) begins))))

module _ (P : Access → Type 0) (sources : List Source) (facts : ValueId → Option Facts) (f : Function) (i : Item)
    (ends : (v : ValueId) → P (Ends v)) (begins : (v : ValueId) → P (Begins v)) (mentions : (v : ValueId) (a : Allowance) → P (Mentions v a))
    (does : (x : Inst) → item_inst f i ≡ Some x → (o : Operated) → Contains (operations_of x) o → P (Does o))
    (deallocates_one : (x : Inst) → item_inst f i ≡ Some x → deallocates x ≡ true → (v : ValueId) → Contains (addresses_of x) v → P (Deallocates v))
    (makes_one : (v : ValueId) → Contains (item_defined f i) v → Each P (made sources v)) where
  each_end : (v : ValueId) (sort : MarkSort) → Each P (ends_by v sort)
  each_end v End = (ends v, tt)
  each_end v Use = tt
  each_end v Begin = tt

  each_begin : (v : ValueId) (sort : MarkSort) → Each P (begins_by v sort)
  each_begin v End = tt
  each_begin v Use = tt
  each_begin v Begin = (begins v, tt)

  all_ends : (marks : List Mark) → Each (λ m. Each P (ended m)) marks
  all_ends [] = tt
  all_ends (m ∷ marks) = (each_end m.subject m.sort, all_ends marks)

  all_begins : (marks : List Mark) → Each (λ m. Each P (begun m)) marks
  all_begins [] = tt
  all_begins (m ∷ marks) = (each_begin m.subject m.sort, all_begins marks)

  pub accesses_each : Each P (accesses_of sources facts f i)
  accesses_each =
      accesses_join P sources facts f i mentions does deallocates_one makes_one
      (each_flat P ended (marks_of facts f i) (all_ends (marks_of facts f i))) (each_flat P begun (marks_of facts f i) (all_begins (marks_of facts f i)))

-- ---- an operand that is mentioned

pub record MentionAt (sources : List Source) (facts : ValueId → Option Facts) (f : Function) (i : Item) (y : Taken) (a : Allowance) : Type 0 where
  pub front : List Taken
  pub behind : List Access
  pub parts : accesses_of sources facts f i ≡ (flat_map ended (marks_of facts f i) ++ map (mentioned a) front) ++ Mentions y.value a ∷ behind

-- what an item does behind its mentions
abbrev done_behind : List Source → (ValueId → Option Facts) → Function → Item → List Access
done_behind sources facts f i =
    does_of (item_inst f i) ++ (deallocations_of (item_inst f i) ++ (flat_map (made sources) (item_defined f i) ++ flat_map begun (marks_of facts f i)))

-- accesses in two halves, of which one is in two halves
halves : {A : Type 0} (xs ys zs ws : List A) (y : A) → xs ++ ((ys ++ y ∷ zs) ++ ws) ≡ (xs ++ ys) ++ y ∷ (zs ++ ws)
halves xs ys zs ws y = ap (λ us. xs ++ us) (append_assoc ys (y ∷ zs) ws) ∙ sym (append_assoc xs ys (y ∷ (zs ++ ws)))

-- only values that end, and other operands, come before it
pub mention_at : (sources : List Source) (facts : ValueId → Option Facts) (f : Function) (i : Item) (x : Inst) → item_inst f i ≡ Some x → deallocates x ≡ false
    → (y : Taken) → Contains (item_taken f i) y → MentionAt sources facts f i y (allowance_of x.op)
mention_at sources facts f i x is stays y c = record {
  front = split.0;
  behind = map (mentioned (allowance_of x.op)) split.1 ++ done_behind sources facts f i;
  parts = ap (λ xs. flat_map ended (marks_of facts f i) ++ (xs ++ done_behind sources facts f i)) mentions
      ∙ halves (flat_map ended (marks_of facts f i)) (map (mentioned (allowance_of x.op)) split.0) (map (mentioned (allowance_of x.op)) split.1)
      (done_behind sources facts f i)
      (Mentions y.value (allowance_of x.op));
}
  where
    split : (front rest : List Taken) × (item_taken f i ≡ front ++ y ∷ rest)
    split = split_among (item_taken f i) y (among_contained y (item_taken f i) c)

    mentions : mentions_of (item_inst f i) (item_taken f i)
        ≡ map (mentioned (allowance_of x.op)) split.0 ++ (Mentions y.value (allowance_of x.op) ∷ map (mentioned (allowance_of x.op)) split.1)
    mentions =
        ap (λ o. mentions_of o (item_taken f i)) is ∙ ap (λ b. cond b [] (map (mentioned (allowance_of x.op)) (item_taken f i))) stays
        ∙ ap (map (mentioned (allowance_of x.op))) split.2 ∙ mapped_append (mentioned (allowance_of x.op)) split.0 (y ∷ split.1)
