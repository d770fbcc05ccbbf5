-- How an operation turns a cell, and that two at one cell leave it as it is.
use Rattle.std.proofs.Common.{◌≡◌, ℕ, List, [], ◌∷◌, refl, sym, ap, ◌∙◌, subst, Bool, true, false, not, ◌&&◌, ◌||◌, Option, Some, None, eq-eqb}
use Rattle.std.specs.Prelude.{◌==◌, cond, is_some, unwrap_or}
use Rattle.std.specs.List.{starts_with}
use Rattle.std.proofs.lemmas.Bool.{and_parts, eqb-true, false≢true, true≢false}
use Rattle.argument_conventions.specs.Rows.{keeps_full, keeps_full_by, only_reads, row_of}
use Rattle.argument_conventions.specs.declared.convention.AddressConvention.{AddressConvention}
use Rattle.argument_conventions.specs.declared.convention.AddressConvention.TheVariants.{In, InGuaranteed, Inout, Out}
use Rattle.argument_conventions.specs.declared.row.AddressRow.{AddressRow}
use Rattle.argument_conventions.specs.declared.row.Content.{Content}
use Rattle.argument_conventions.specs.declared.row.Content.TheVariants.{Empty, Full}
use Rattle.sil_verifier_values.specs.memory_rules_accesses.Locations.{cell_by, cell_of, object_built, overlap, same_step}
use Rattle.sil_verifier_values.specs.memory_rules_accesses.Rows.{field_has, has_by, has_operation, has_steps, is_part, shared_has, slot_has}
use Rattle.sil_verifier_values.specs.memory_rules_accesses.Sources.{source_at}
use Rattle.sil_verifier_values.specs.memory_rules_accesses.declared.access.Operation.{Operation}
use Rattle.sil_verifier_values.specs.memory_rules_accesses.declared.access.Operation.TheVariants.{FirstWrite, Handed, Lend, Read, Take, TrivialStore, Write}
use Rattle.sil_verifier_values.specs.memory_rules_accesses.declared.location.Cell.{Cell}
use Rattle.sil_verifier_values.specs.memory_rules_accesses.declared.location.Location.{Location}
use Rattle.sil_verifier_values.specs.memory_rules_accesses.declared.source.Source.{Source}
use Rattle.sil_verifier_values.specs.memory_rules_accesses.declared.source.Source.TheVariants as source
use Rattle.sil_verifier_values.specs.memory_rules_parts.Contents.{handed_mark, operation_mark, same_cell}
use Rattle.sil_verifier_values.specs.memory_rules_parts.Parts.{whole_cell}
use Rattle.sil_verifier_values.specs.memory_rules_parts.Switches.{is_same}
use Rattle.sil_verifier_values.specs.memory_rules_parts.declared.part.Part.TheVariants.{Contents}
use Rattle.sil_verifier_trails.specs.RunTrails.inner.Switched.{finds}
use Rattle.sil_verifier_values.specs.reach_engine_marks.declared.path_patterns.mark.Mark.{Mark}
use Rattle.sil_ast.specs.declared.place.ValueId.{ValueId}
use Rattle.sil_verifier_trails.specs.AcceptedPlaces.inner.Cells.{NeedsFull, field_part, part_by}
use Rattle.sil_verifier_trails.proofs.AcceptedPlaces.Done.{IsRow}

-- what leaves a place full as it was turns nothing
abbrev pub IsQuiet : Mark → Type 0
IsQuiet m = m.turns ≡ None

pub full_quiet : (trivial : Bool) (row : AddressRow) → row.before ≡ Full → row.after ≡ Full → IsQuiet (handed_mark trivial row.before row.after)
full_quiet trivial row before after = ap (λ c. (handed_mark trivial c row.after).turns) before ∙ ap (λ c. (handed_mark trivial Full c).turns) after

keeps_both : (before after : Content) → keeps_full_by before after ≡ true → (before ≡ Full) × (after ≡ Full)
keeps_both Empty after e = absurd (false≢true e)
keeps_both Full Empty e = absurd (false≢true e)
keeps_both Full Full e = (refl, refl)

-- a row that only reads, or that may be shared, is of places that stay full
reads_full : (c : AddressConvention) → only_reads (row_of c) ≡ true → ((row_of c).before ≡ Full) × ((row_of c).after ≡ Full)
reads_full InGuaranteed e = (refl, refl)
reads_full Inout e = absurd (false≢true e)
reads_full In e = absurd (false≢true e)
reads_full Out e = absurd (false≢true e)

shared_full : (c : AddressConvention) → (row_of c).shared ≡ true → ((row_of c).before ≡ Full) × ((row_of c).after ≡ Full)
shared_full InGuaranteed e = (refl, refl)
shared_full Inout e = absurd (false≢true e)
shared_full In e = absurd (false≢true e)
shared_full Out e = absurd (false≢true e)

abbrev pub StaysFull : AddressRow → Type 0
StaysFull row = (row.before ≡ Full) × (row.after ≡ Full)

pub reads_stay : (row : AddressRow) → IsRow row → only_reads row ≡ true → StaysFull row
reads_stay row is e = subst StaysFull (sym is.1) (reads_full is.0 (sym (ap only_reads is.1) ∙ e))

pub shared_stay : (row : AddressRow) → IsRow row → row.shared ≡ true → StaysFull row
shared_stay row is e = subst StaysFull (sym is.1) (shared_full is.0 (sym (ap (λ (r : AddressRow). r.shared) is.1) ∙ e))

-- ---- where a call is handed a place, its root is a slot or an argument; a part that it is handed stays full

handed_by_slot : (part : Bool) (row : AddressRow) → slot_has part (Handed row) ≡ true → part ≡ true → StaysFull row
handed_by_slot part row h is = keeps_both row.before row.after (sym (ap (λ b. not b || keeps_full row) is) ∙ h)

module _ (sources : List Source) where
  part_stays_by : (s : Source) (part : Bool) (row : AddressRow) → IsRow row → has_by sources s part (Handed row) ≡ true → part ≡ true → StaysFull row
  part_stays_by (source.Slot trivial) part row of h is = handed_by_slot part row h is
  part_stays_by (source.Argument r trivial) part row of h is = at r.shared h
    where
      at : (b : Bool) → cond b (shared_has (Handed row)) (slot_has part (Handed row)) ≡ true → StaysFull row
      at true e = reads_stay row of e
      at false e = handed_by_slot part row e is
  part_stays_by (source.Object fields) part row of h is = absurd (false≢true h)
  part_stays_by (source.Borrow v) part row of h is = absurd (false≢true h)
  part_stays_by (source.Upcast v) part row of h is = absurd (false≢true h)
  part_stays_by (source.Loan v) part row of h is = absurd (false≢true h)
  part_stays_by (source.Field v k trivial) part row of h is = absurd (false≢true h)
  part_stays_by (source.Part v k) part row of h is = absurd (false≢true h)
  part_stays_by source.Other part row of h is = absurd (false≢true h)

  whole_by : (s : Source) (part : Bool) (row : AddressRow) (root : ValueId) → has_by sources s part (Handed row) ≡ true → cell_by sources root s ≡ whole_cell root
  whole_by (source.Slot trivial) part row root h = refl
  whole_by (source.Argument r trivial) part row root h = refl
  whole_by (source.Object fields) part row root h = refl
  whole_by (source.Borrow v) part row root h = refl
  whole_by (source.Upcast v) part row root h = refl
  whole_by (source.Loan v) part row root h = refl
  whole_by (source.Field v k trivial) part row root h = absurd (false≢true h)
  whole_by (source.Part v k) part row root h = refl
  whole_by source.Other part row root h = refl

  -- the cell of what a call is handed is that of its root
  pub same_root : (l : Location) (row : AddressRow) (cell : Cell) → has_operation sources l (Handed row) ≡ true → same_cell (cell_of sources l.root) cell ≡ true
      → l.root.0 ≡ cell.subject.0
  same_root l row cell h e =
      eqb-true l.root.0 cell.subject.0
      (and_parts (is_same l.root cell.subject) _ (sym (ap (λ c. same_cell c cell) (whole_by (source_at sources l.root) (is_part l) row l.root h)) ∙ e)).0

  steps_where_apart : (root : Bool) (a b : List ℕ) → root ≡ true
      → (root && (starts_with same_step a b || starts_with same_step b a)) ≡ false → (has_steps a ≡ true) × (has_steps b ≡ true)
  steps_where_apart root [] b is e = absurd (true≢false (sym (either_true (starts_with same_step [] b)) ∙ sym (ap (λ r. r && (starts_with same_step [] b || true)) is) ∙ e))
    where
      either_true : (x : Bool) → (x || true) ≡ true
      either_true true = refl
      either_true false = refl
  steps_where_apart root (k ∷ a) [] is e = absurd (true≢false (sym (ap (λ r. r && true) is) ∙ e))
  steps_where_apart root (k ∷ a) (j ∷ b) is e = (refl, refl)

  -- two that are apart at one root are parts
  pub parts_where_apart : (l k : Location) → l.root.0 ≡ k.root.0 → overlap l k ≡ false → (is_part l ≡ true) × (is_part k ≡ true)
  parts_where_apart l k same e = steps_where_apart (l.root.0 == k.root.0) l.path k.path (eq-eqb l.root.0 k.root.0 same) e

  pub part_stays : (l : Location) (row : AddressRow) → IsRow row → has_operation sources l (Handed row) ≡ true → is_part l ≡ true → StaysFull row
  part_stays l row of h is = part_stays_by (source_at sources l.root) (is_part l) row of h is

  -- ---- at a root that isn't followed

  handed_full : (row : AddressRow) (trivial : Bool) → StaysFull row → NeedsFull (handed_mark trivial row.before row.after)
  handed_full row trivial full = record {
    found = ap (λ c. finds (handed_mark trivial c row.after).needs true) full.0 ∙ ap (λ c. finds (handed_mark trivial Full c).needs true) full.1;
    left = ap (λ c. unwrap_or (handed_mark trivial c row.after).turns true) full.0 ∙ ap (λ c. unwrap_or (handed_mark trivial Full c).turns true) full.1;
  }

  shared_needs : (o : Operation) → ((row : AddressRow) → o ≡ Handed row → IsRow row) → shared_has o ≡ true → (trivial part : Bool) → NeedsFull (operation_mark trivial part o)
  shared_needs FirstWrite of h trivial part = absurd (false≢true h)
  shared_needs Read of h trivial part = record { found = refl; left = refl }
  shared_needs Lend of h trivial part = record { found = refl; left = refl }
  shared_needs Write of h trivial part = absurd (false≢true h)
  shared_needs TrivialStore of h trivial part = absurd (false≢true h)
  shared_needs (Handed row) of h trivial part = handed_full row trivial (reads_stay row (of row refl) h)
  shared_needs Take of h trivial part = absurd (false≢true h)

  field_needs : (o : Operation) (p : Bool) → field_has p false o ≡ true → (trivial part : Bool) → NeedsFull (operation_mark trivial part o)
  field_needs FirstWrite true h trivial part = absurd (false≢true h)
  field_needs FirstWrite false h trivial part = absurd (false≢true h)
  field_needs Read p h trivial part = record { found = refl; left = refl }
  field_needs Lend p h trivial part = absurd (false≢true h)
  field_needs Write p h trivial part = record { found = refl; left = refl }
  field_needs TrivialStore p h trivial true = record { found = refl; left = refl }
  field_needs TrivialStore p h trivial false = record { found = refl; left = refl }
  field_needs (Handed row) p h trivial part = absurd (false≢true h)
  field_needs Take p h trivial part = absurd (false≢true h)

  pub unfollowed_needs : (root : ValueId) (s : Source) (o : Operation) → ((row : AddressRow) → o ≡ Handed row → IsRow row) → part_by sources root s ≡ None
      → (p : Bool) → has_by sources s p o ≡ true → (trivial part : Bool) → NeedsFull (operation_mark trivial part o)
  unfollowed_needs root (source.Slot t) o of none p h trivial part = cc
  unfollowed_needs root (source.Argument row t) o of none p h trivial part = at row.shared none h
    where
      at : (b : Bool) → cond b None (Some (Contents (whole_cell root) t (Some row.after))) ≡ None → cond b (shared_has o) (slot_has p o) ≡ true
          → NeedsFull (operation_mark trivial part o)
      at true e k = shared_needs o of k trivial part
      at false e k = cc
  unfollowed_needs root (source.Object fields) o of none p h trivial part = absurd (false≢true h)
  unfollowed_needs root (source.Borrow v) o of none p h trivial part = absurd (false≢true h)
  unfollowed_needs root (source.Upcast v) o of none p h trivial part = absurd (false≢true h)
  unfollowed_needs root (source.Loan v) o of none p h trivial part = absurd (false≢true h)
  unfollowed_needs root (source.Field v k t) o of none p h trivial part = at (object_built sources v) none h
    where
      at : (x : Option ValueId) → field_part x k ≡ None → field_has p (is_some x) o ≡ true → NeedsFull (operation_mark trivial part o)
      at None e k = field_needs o p k trivial part
      at (Some w) e k = cc
  unfollowed_needs root (source.Part v k) o of none p h trivial part = absurd (false≢true h)
  unfollowed_needs root source.Other o of none p h trivial part = absurd (false≢true h)
