-- What an item takes, makes and asks of memory, read off its accesses.
use Rattle.std.proofs.Common.{◌≡◌, List, [], ◌∷◌, ◌++◌, map, refl, sym, ap, ap₂, ◌∙◌, Bool, true, false, cond, ◌||◌, Option, Some, None}
use Rattle.std.specs.Prelude.{◌==◌, flat_map}
use Rattle.std.specs.List.{list_any}
use Rattle.std.proofs.lemmas.Bool.{false≢true}
use Rattle.std.proofs.lemmas.List.Folds.{list_any-append}
use Rattle.sil_ast.specs.declared.function.Function.{Function}
use Rattle.sil_ast.specs.declared.inst.Inst.{Inst}
use Rattle.sil_ast.specs.declared.place.ValueId.{ValueId}
use Rattle.sil_cfg.specs.declared.item.Item.{Item}
use Rattle.sil_cfg_items.specs.Items.{item_defined, item_taken}
use Rattle.sil_cfg_items.specs.Parts.{item_inst}
use Rattle.sil_cfg_items.specs.declared.taken.Taken.{Taken}
use Rattle.sil_verifier_trails.specs.memory_rules_accesses.Accesses.{accesses_with, allowance_of, begins_by, begun, deallocations_of, does_of, ended, ends_by, made, made_by, mentioned, mentions_of}
use Rattle.sil_verifier_trails.specs.memory_rules_accesses.Operations.{addresses_of, deallocates, operations_of}
use Rattle.sil_verifier_trails.specs.memory_rules_accesses.Sources.{source_at}
use Rattle.sil_verifier_trails.specs.memory_rules_accesses.declared.access.Access.{Access}
use Rattle.sil_verifier_trails.specs.memory_rules_accesses.declared.access.Access.TheVariants.{Allocates, Begins, Deallocates, Does, Ends, Given, Mentions}
use Rattle.sil_verifier_trails.specs.memory_rules_accesses.declared.columns.Allowance.{Allowance}
use Rattle.sil_verifier_trails.specs.memory_rules_accesses.declared.source.Source.{Source}
use Rattle.sil_verifier_trails.specs.memory_rules_accesses.declared.source.Source.TheVariants as source
use Rattle.sil_verifier_trails.specs.memory_rules_parts.Switches.{is_same}
use Rattle.ownership_kinds_chains.specs.OwnershipChains.Facts.{has}
use Rattle.ownership_kinds_chains.specs.declared.ownership_marks.mark.Mark.{Mark}
use Rattle.ownership_kinds_chains.specs.declared.ownership_marks.mark.MarkSort.{MarkSort}
use Rattle.ownership_kinds_chains.specs.declared.ownership_marks.mark.MarkSort.TheVariants.{Begin, End, Use}
use Rattle.copy_pairing_acceptance.proofs.LentMemory.Means.{mentions}

-- the access allocates the value
abbrev pub allocates : ValueId → Access → Bool
allocates o (Ends v) = false
allocates o (Begins v) = false
allocates o (Allocates v) = is_same v o
allocates o (Deallocates v) = false
allocates o (Given v content) = false
allocates o (Does x) = false
allocates o (Mentions v a) = false

none_in : {A B : Type 0} (p : B → Bool) (into : A → List B) → ((x : A) → list_any p (into x) ≡ false) → (xs : List A) → list_any p (flat_map into xs) ≡ false
none_in p into none [] = refl
none_in p into none (x ∷ xs) =
    list_any-append p (into x) (flat_map into xs) ∙ ap₂ (λ a b. a || b) (none x) (none_in p into none xs)

none_of : {A B : Type 0} (p : B → Bool) (into : A → B) → ((x : A) → p (into x) ≡ false) → (xs : List A) → list_any p (map into xs) ≡ false
none_of p into none [] = refl
none_of p into none (x ∷ xs) = ap₂ (λ a b. a || b) (none x) (none_of p into none xs)

-- of six lists one after another, one alone has what passes
module _ {A : Type 0} (p : A → Bool) where
  joined : (xs ys : List A) (a b : Bool) → list_any p xs ≡ a → list_any p ys ≡ b → list_any p (xs ++ ys) ≡ (a || b)
  joined xs ys a b h k = list_any-append p xs ys ∙ ap₂ (λ x y. x || y) h k

  pub six : (xs bs cs ds es gs : List A) (a b c d e g : Bool) → list_any p xs ≡ a → list_any p bs ≡ b → list_any p cs ≡ c → list_any p ds ≡ d → list_any p es ≡ e
      → list_any p gs ≡ g → list_any p (xs ++ (bs ++ (cs ++ (ds ++ (es ++ gs))))) ≡ (a || (b || (c || (d || (e || g)))))
  six xs bs cs ds es gs a b c d e g ha hb hc hd he hg =
      joined xs (bs ++ (cs ++ (ds ++ (es ++ gs)))) a _ ha
      (joined bs (cs ++ (ds ++ (es ++ gs))) b _ hb (joined cs (ds ++ (es ++ gs)) c _ hc (joined ds (es ++ gs) d _ hd (joined es gs e g he hg))))

or_nothing : (b : Bool) → (b || false) ≡ b
or_nothing true = refl
or_nothing false = refl

module _ (sources : List Source) (marks : List Mark) (f : Function) (i : Item) where
  -- ---- what is mentioned is taken

  module _ (c : ValueId) where
    abbrev takes : Taken → Bool
    takes t = t.value.0 == c.0

    no_end : (m : Mark) → list_any (mentions c) (ended m) ≡ false
    no_end m = at m.sort
      where
        at : (s : MarkSort) → list_any (mentions c) (ends_by m.subject s) ≡ false
        at End = refl
        at Use = refl
        at Begin = refl

    no_begin : (m : Mark) → list_any (mentions c) (begun m) ≡ false
    no_begin m = at m.sort
      where
        at : (s : MarkSort) → list_any (mentions c) (begins_by m.subject s) ≡ false
        at End = refl
        at Use = refl
        at Begin = refl

    no_made : (w : ValueId) → list_any (mentions c) (made sources w) ≡ false
    no_made w = at (source_at sources w)
      where
        at : (s : Source) → list_any (mentions c) (made_by w s) ≡ false
        at (source.Slot trivial) = refl
        at (source.Argument row trivial) = refl
        at (source.Object fields) = refl
        at (source.Borrow of) = refl
        at (source.Upcast of) = refl
        at (source.Loan of) = refl
        at (source.Field of k trivial) = refl
        at (source.Part of k) = refl
        at source.Other = refl

    no_does : (o : Option Inst) → list_any (mentions c) (does_of o) ≡ false
    no_does None = refl
    no_does (Some x) = none_of (mentions c) Does (λ y. refl) (operations_of x)

    no_deallocation : (o : Option Inst) → list_any (mentions c) (deallocations_of o) ≡ false
    no_deallocation None = refl
    no_deallocation (Some x) = at (deallocates x)
      where
        at : (b : Bool) → list_any (mentions c) (cond b (map Deallocates (addresses_of x)) []) ≡ false
        at true = none_of (mentions c) Deallocates (λ y. refl) (addresses_of x)
        at false = refl

    all_mentioned : (a : Allowance) (ts : List Taken) → list_any (mentions c) (map (mentioned a) ts) ≡ list_any takes ts
    all_mentioned a [] = refl
    all_mentioned a (t ∷ ts) = ap (λ b. (t.value.0 == c.0) || b) (all_mentioned a ts)

    mentioned_taken : (o : Option Inst) (ts : List Taken) → list_any (mentions c) (mentions_of o ts) ≡ true → list_any takes ts ≡ true
    mentioned_taken None ts e = absurd (false≢true e)
    mentioned_taken (Some x) ts e = at (deallocates x) e
      where
        at : (b : Bool) → list_any (mentions c) (cond b [] (map (mentioned (allowance_of x.op)) ts)) ≡ true → list_any takes ts ≡ true
        at true e = absurd (false≢true e)
        at false e = sym (all_mentioned (allowance_of x.op) ts) ∙ e

    pub taken_where_mentioned : list_any (mentions c) (accesses_with sources marks f i) ≡ true → list_any takes (item_taken f i) ≡ true
    taken_where_mentioned e =
        let inst = item_inst f i in
        let is = six (mentions c) (flat_map ended marks) (mentions_of inst (item_taken f i)) (does_of inst) (deallocations_of inst) (flat_map (made sources) (item_defined f i))
        (flat_map begun marks) false (list_any (mentions c) (mentions_of inst (item_taken f i))) false false false false
        (none_in (mentions c) ended no_end marks) refl (no_does inst) (no_deallocation inst) (none_in (mentions c) (made sources) no_made (item_defined f i))
        (none_in (mentions c) begun no_begin marks) in
        mentioned_taken inst (item_taken f i) (sym (or_nothing (list_any (mentions c) (mentions_of inst (item_taken f i)))) ∙ sym is ∙ e)

  -- ---- what is allocated is made

  module _ (o : ValueId) where
    none_ended : (m : Mark) → list_any (allocates o) (ended m) ≡ false
    none_ended m = at m.sort
      where
        at : (s : MarkSort) → list_any (allocates o) (ends_by m.subject s) ≡ false
        at End = refl
        at Use = refl
        at Begin = refl

    none_begun : (m : Mark) → list_any (allocates o) (begun m) ≡ false
    none_begun m = at m.sort
      where
        at : (s : MarkSort) → list_any (allocates o) (begins_by m.subject s) ≡ false
        at End = refl
        at Use = refl
        at Begin = refl

    none_mentioned : (x : Option Inst) (ts : List Taken) → list_any (allocates o) (mentions_of x ts) ≡ false
    none_mentioned None ts = refl
    none_mentioned (Some x) ts = at (deallocates x)
      where
        at : (b : Bool) → list_any (allocates o) (cond b [] (map (mentioned (allowance_of x.op)) ts)) ≡ false
        at true = refl
        at false = none_of (allocates o) (mentioned (allowance_of x.op)) (λ y. refl) ts

    none_does : (x : Option Inst) → list_any (allocates o) (does_of x) ≡ false
    none_does None = refl
    none_does (Some x) = none_of (allocates o) Does (λ y. refl) (operations_of x)

    none_deallocated : (x : Option Inst) → list_any (allocates o) (deallocations_of x) ≡ false
    none_deallocated None = refl
    none_deallocated (Some x) = at (deallocates x)
      where
        at : (b : Bool) → list_any (allocates o) (cond b (map Deallocates (addresses_of x)) []) ≡ false
        at true = none_of (allocates o) Deallocates (λ y. refl) (addresses_of x)
        at false = refl

    one_made : (w : ValueId) → (w.0 == o.0) ≡ false → list_any (allocates o) (made sources w) ≡ false
    one_made w other = at (source_at sources w)
      where
        at : (s : Source) → list_any (allocates o) (made_by w s) ≡ false
        at (source.Slot trivial) = ap (λ b. b || false) other
        at (source.Argument row trivial) = refl
        at (source.Object fields) = ap (λ b. b || false) other
        at (source.Borrow of) = refl
        at (source.Upcast of) = refl
        at (source.Loan of) = refl
        at (source.Field of k trivial) = refl
        at (source.Part of k) = refl
        at source.Other = refl

    none_made : (ws : List ValueId) → has ws o.0 ≡ false → list_any (allocates o) (flat_map (made sources) ws) ≡ false
    none_made [] e = refl
    none_made (w ∷ ws) e = at (w.0 == o.0) refl e (none_made ws)
      where
        at : (x : Bool) → (w.0 == o.0) ≡ x → (x || has ws o.0) ≡ false → (has ws o.0 ≡ false → list_any (allocates o) (flat_map (made sources) ws) ≡ false)
            → list_any (allocates o) (flat_map (made sources) (w ∷ ws)) ≡ false
        at true is e more = absurd (false≢true (sym e))
        at false is e more = list_any-append (allocates o) (made sources w) (flat_map (made sources) ws) ∙ ap₂ (λ a b. a || b) (one_made w is) (more e)

    pub unallocated : has (item_defined f i) o.0 ≡ false → list_any (allocates o) (accesses_with sources marks f i) ≡ false
    unallocated e =
        let inst = item_inst f i in
        six (allocates o) (flat_map ended marks) (mentions_of inst (item_taken f i)) (does_of inst) (deallocations_of inst) (flat_map (made sources) (item_defined f i))
        (flat_map begun marks) false false false false false false
        (none_in (allocates o) ended none_ended marks) (none_mentioned inst (item_taken f i)) (none_does inst) (none_deallocated inst) (none_made (item_defined f i) e)
        (none_in (allocates o) begun none_begun marks)
