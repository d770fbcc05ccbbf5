-- What the table of several parts shows of a number is what the part's own table shows.
use Rattle.std.proofs.Common.{◌≡◌, ℕ, zero, suc, ◌<◌, ◌≤◌, List, [], ◌∷◌, ◌++◌, length, get_or, take, map, refl, sym, ap, ap₂, ◌∙◌, subst, Bool, true, false, Option, Some, None, arith, inl, inr}
use Rattle.std.specs.Prelude.{cond, filter_map, option_map, slice_get, unwrap_or}
use Rattle.std.specs.List.{flat_map}
use Rattle.std.specs.Option.{option_to_list}
use Rattle.std.proofs.lemmas.List.Elements.{filter_map-append}
use Rattle.std.proofs.lemmas.List.{get_or-take, length-take-le}
use Rattle.std.proofs.lemmas.Option.{slice_get-map, slice_get_read}
use Rattle.sil_ast.specs.declared.function.Function.{Function}
use Rattle.sil_ast.specs.declared.place.EdgeId.{EdgeId}
use Rattle.sil_ast.specs.declared.place.PointId.{PointId}
use Rattle.sil_ast.specs.declared.place.ValueId.{ValueId}
use Rattle.sil_cfg.specs.Returns.{is_return}
use Rattle.sil_cfg.specs.declared.item.Item.{Item}
use Rattle.sil_rules.specs.Order as rules
use Rattle.ownership_kinds_chains.specs.OwnershipChains.Facts.{known_or}
use Rattle.ownership_kinds_chains.specs.declared.ownership_chains.facts.Facts.{Facts}
use Rattle.reach_engine_marks.proofs.PathChecks.OneSubject.{marks_shared, same_shown_of}
use Rattle.reach_engine_marks.specs.PathChecks.Entries as entries
use Rattle.reach_engine_marks.specs.PathChecks.First as paths
use Rattle.reach_engine_marks.specs.PathChecks.inner.Shared.{shared_if}
use Rattle.reach_engine_marks.specs.declared.path_checks.fault.PathFault.{PathFault}
use Rattle.reach_engine_marks.specs.declared.path_patterns.mark.Mark.{Mark}
use Rattle.memory_rules_accesses.specs.Accesses.{accesses_of}
use Rattle.memory_rules_accesses.specs.declared.access.Access.{Access}
use Rattle.memory_rules_accesses.specs.declared.source.Source.{Source}
use Rattle.memory_rules_parts.specs.inner.Batches.{batch_table, joint}
use Rattle.memory_rules_parts.specs.Parts.{at_return, means, subject_of}
use Rattle.sil_rules.specs.RuleFaults.Keys.{fault_key, key}
use Rattle.sil_rules.specs.declared.rule.Rule.{Rule}
use Rattle.memory_rules_parts.specs.Shown.{IsShown, marks_of_access, other_of, part_marks}
use Rattle.sil_rules.specs.declared.rule_faults.fault.RuleFault.{RuleFault}
use Rattle.memory_rules_parts.specs.declared.part.Part.{Part}

no_first : {A : Type 0} (front : List A) (x : A) (rest : List A) → [] ≡ front ++ x ∷ rest → ⊥
no_first [] x rest e = cc
no_first (y ∷ front) x rest e = cc

module _ (sources : List Source) (facts : ValueId → Option Facts) (f : Function) (parts : List Part) where
  module _ (n : ℕ) (p : Part) (there : slice_get parts n ≡ Some p) where
    at_access : (a : Access) → filter_map (entries.means n) (joint sources (known_or facts) parts a) ≡ marks_of_access sources facts f p a
    at_access a =
        let h : Part → Option Mark = λ q. means sources (known_or facts) q a in
        marks_shared (map h parts) n 0 n (omega arith) ∙ ap (λ o. option_to_list (unwrap_or o None)) (slice_get-map h parts n ∙ ap (option_map h) there)

    at_accesses : (accesses : List Access) → filter_map (entries.means n) (flat_map (joint sources (known_or facts) parts) accesses) ≡ flat_map (marks_of_access sources facts f p) accesses
    at_accesses [] = refl
    at_accesses (a ∷ accesses) =
        filter_map-append (entries.means n) (joint sources (known_or facts) parts a) (flat_map (joint sources (known_or facts) parts) accesses)
        ∙ ap₂ (λ u v. u ++ v) (at_access a) (at_accesses accesses)

    at_returns : (b : Bool) → filter_map (entries.means n) (shared_if (map at_return parts) b) ≡ cond b (option_to_list (at_return p)) []
    at_returns true = marks_shared (map at_return parts) n 0 n (omega arith) ∙ ap (λ o. option_to_list (unwrap_or o None)) (slice_get-map at_return parts n ∙ ap (option_map at_return) there)
    at_returns false = refl

    same_marks : (item : Item) → entries.marks_for n (batch_table sources facts f parts) item ≡ part_marks sources facts f p item
    same_marks item =
        filter_map-append (entries.means n) (flat_map (joint sources (known_or facts) parts) (accesses_of sources facts f item)) (shared_if (map at_return parts) (is_return f item))
        ∙ ap₂ (λ u v. u ++ v) (at_accesses (accesses_of sources facts f item)) (at_returns (is_return f item))

    pub batch_part : (rule : Rule) (walk : List EdgeId) (point : PointId) (item : Item) → paths.IsShownAt f (batch_table sources facts f parts) n rule walk point item
        → paths.IsBreakShown f (part_marks sources facts f p) rule walk point item
    batch_part rule walk point item h = same_shown_of f (entries.marks_for n (batch_table sources facts f parts)) (part_marks sources facts f p) same_marks rule walk point item h

    pub part_batch : (rule : Rule) (walk : List EdgeId) (point : PointId) (item : Item) → paths.IsBreakShown f (part_marks sources facts f p) rule walk point item
        → paths.IsShownAt f (batch_table sources facts f parts) n rule walk point item
    part_batch rule walk point item h = same_shown_of f (part_marks sources facts f p) (entries.marks_for n (batch_table sources facts f parts)) (λ i. sym (same_marks i)) rule walk point item h

  -- a number that is no part's has no marks
  module _ (n : ℕ) (past : slice_get parts n ≡ None) where
    none_access : (a : Access) → filter_map (entries.means n) (joint sources (known_or facts) parts a) ≡ []
    none_access a =
        let h : Part → Option Mark = λ q. means sources (known_or facts) q a in
        marks_shared (map h parts) n 0 n (omega arith) ∙ ap (λ o. option_to_list (unwrap_or o None)) (slice_get-map h parts n ∙ ap (option_map h) past)

    none_accesses : (accesses : List Access) → filter_map (entries.means n) (flat_map (joint sources (known_or facts) parts) accesses) ≡ []
    none_accesses [] = refl
    none_accesses (a ∷ accesses) =
        filter_map-append (entries.means n) (joint sources (known_or facts) parts a) (flat_map (joint sources (known_or facts) parts) accesses)
        ∙ ap₂ (λ u v. u ++ v) (none_access a) (none_accesses accesses)

    none_returns : (b : Bool) → filter_map (entries.means n) (shared_if (map at_return parts) b) ≡ []
    none_returns true = marks_shared (map at_return parts) n 0 n (omega arith) ∙ ap (λ o. option_to_list (unwrap_or o None)) (slice_get-map at_return parts n ∙ ap (option_map at_return) past)
    none_returns false = refl

    none_marks : (item : Item) → entries.marks_for n (batch_table sources facts f parts) item ≡ []
    none_marks item =
        filter_map-append (entries.means n) (flat_map (joint sources (known_or facts) parts) (accesses_of sources facts f item)) (shared_if (map at_return parts) (is_return f item))
        ∙ ap₂ (λ u v. u ++ v) (none_accesses (accesses_of sources facts f item)) (none_returns (is_return f item))

    pub past_unshown : (rule : Rule) (walk : List EdgeId) (point : PointId) (item : Item) → paths.IsShownAt f (batch_table sources facts f parts) n rule walk point item → ⊥
    past_unshown rule walk point item h =
        let r = same_shown_of f (entries.marks_for n (batch_table sources facts f parts)) (λ _. []) none_marks rule walk point item h in
        no_first r.shows.breaks.front r.shows.breaks.mark r.shows.breaks.rest r.shows.breaks.parts

  -- what is shown at a part is shown of its number
  shown_number : (n : ℕ) (s : RuleFault) (h : IsShown sources facts f parts s) → slice_get parts n ≡ Some h.part → paths.IsShown f (batch_table sources facts f parts) n s.rule s.walk s.point
  shown_number n s h there = record { item = h.item; at = part_batch n h.part there s.rule s.walk s.point h.item h.shown }

  place : (s : RuleFault) (h : IsShown sources facts f parts s) → slice_get parts h.there.0 ≡ Some h.part
  place s h = slice_get_read parts (length parts) h.there.0 h.part refl h.there.1 (sym h.there.2)

  pub none_among : paths.IsFirst f (batch_table sources facts f parts) None → rules.IsFirst fault_key (IsShown sources facts f parts) None
  none_among none s h = none h.there.0 s.rule s.walk s.point (shown_number h.there.0 s h (place s h))

  -- nothing is shown at the parts before the first number
  pub none_before : (fault : PathFault) → paths.IsFirst f (batch_table sources facts f parts) (Some fault) → fault.subject ≤ length parts
      → rules.IsFirst fault_key (IsShown sources facts f (take fault.subject parts)) None
  none_before fault first within s h = at (first.1 h.there.0 s.rule s.walk s.point shown)
    where
      lt : h.there.0 < fault.subject
      lt = let size : length (take fault.subject parts) ≡ fault.subject = length-take-le fault.subject parts within in let k = h.there.1 in omega arith

      there : slice_get parts h.there.0 ≡ Some h.part
      there = slice_get_read parts (length parts) h.there.0 h.part refl (let less : h.there.0 < fault.subject = lt in omega arith) (sym h.there.2 ∙ get_or-take fault.subject parts h.there.0 h.part lt)

      shown : paths.IsShown f (batch_table sources facts f parts) h.there.0 s.rule s.walk s.point
      shown = record { item = h.item; at = part_batch h.there.0 h.part there s.rule s.walk s.point h.item h.shown }

      at : rules.NotAfter (key fault.subject fault.rule fault.walk) (key h.there.0 s.rule s.walk) → ⊥
      at (inl less) = let before : h.there.0 < fault.subject = lt in omega arith
      at (inr same) = let before : h.there.0 < fault.subject = lt in let e : fault.subject ≡ h.there.0 = same.0 in omega arith

one_part : (p q : Part) (k : ℕ) → k < 1 → get_or (p ∷ []) k q ≡ q → p ≡ q
one_part p q zero lt e = e
one_part p q (suc k) lt e = absurd (omega arith)

-- the first that the table of one part shows is the first that is shown at it
pub first_alone : (sources : List Source) (facts : ValueId → Option Facts) (f : Function) (p : Part) (fault : PathFault) (v : ValueId) (o : Option ValueId) →
    paths.IsFirst f (batch_table sources facts f (p ∷ [])) (Some fault) →
    v ≡ subject_of p → o ≡ other_of sources facts f p fault.item →
    rules.IsFirst fault_key (IsShown sources facts f (p ∷ [])) (Some (record { subject = v; rule = fault.rule; walk = fault.walk; point = fault.point; other = o }))
first_alone sources facts f p fault v o first subject_is other_is = at fault.subject refl
  where
    Here : ℕ → Type 0
    Here n = paths.IsShownAt f (batch_table sources facts f (p ∷ [])) n fault.rule fault.walk fault.point fault.item

    s : RuleFault
    s = record { subject = v; rule = fault.rule; walk = fault.walk; point = fault.point; other = o }

    behind : fault.subject ≡ 0 → (t : RuleFault) → IsShown sources facts f (p ∷ []) t → rules.NotAfter (fault_key s) (fault_key t)
    behind zero_is t h = by (first.1 h.there.0 t.rule t.walk t.point (shown_number sources facts f (p ∷ []) h.there.0 t h (place sources facts f (p ∷ []) t h)))
      where
        by : rules.NotAfter (key fault.subject fault.rule fault.walk) (key h.there.0 t.rule t.walk) → rules.NotAfter (fault_key s) (fault_key t)
        by (inl less) = let k : h.there.0 < 1 = h.there.1 in absurd (omega arith)
        by (inr same) = inr (ap (λ x. x.0) (subject_is ∙ ap subject_of (one_part p h.part h.there.0 h.there.1 h.there.2) ∙ h.subject), same.1)

    at : (n : ℕ) → fault.subject ≡ n → rules.IsFirst fault_key (IsShown sources facts f (p ∷ [])) (Some s)
    at zero e = record {
      shown = record {
        part = p;
        there = (0, omega arith, refl);
        subject = sym subject_is;
        item = fault.item;
        shown = batch_part sources facts f (p ∷ []) 0 p refl fault.rule fault.walk fault.point fault.item (subst Here e first.0);
        other = other_is;
      };
      first = behind e;
    }
    at (suc n) e = absurd (past_unshown sources facts f (p ∷ []) (suc n) refl fault.rule fault.walk fault.point fault.item (subst Here e first.0))
