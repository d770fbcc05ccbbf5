use Rattle.std.proofs.Common.{◌≡◌, ◌+◌, ◌-◌, ◌<◌, ◌≤◌, ℕ, List, subst, ◌∙◌, ◌⊎◌, inl, inr, Option, None, arith}
use Rattle.std.proofs.lemmas.Bool.{cases_lt}
use Rattle.std.proofs.lemmas.List.Elements.{All-weaker}
use Rattle.sil_cfg.specs.declared.item.Item.{Item}
use Rattle.sil_cfg.specs.Flow.{numbered}
use Rattle.reach_engine.specs.inner.Search.{IsClean}
use Rattle.reach_engine_marks.specs.PathPatterns.inner.Reads.{AgreesWith}
use Rattle.reach_engine_marks.specs.declared.path_checks.entry.Entry.{Entry}
use Rattle.reach_engine_marks.specs.declared.path_checks.fault.PathFault.{PathFault}
use Rattle.reach_engine_marks.specs.PathChecks.inner.Automata.{subject_step}
use Rattle.reach_engine_marks.specs.PathChecks.inner.Chunks.{IsFirstOfChunk}
use Rattle.reach_engine_marks.specs.PathChecks.inner.Shared.{entries_among, entries_with, shared_from}
use Rattle.reach_engine_marks.proofs.PathChecks.FirstShown.{absent_clean, nothing_shown, chunk_fault_first}
use Rattle.reach_engine_marks.proofs.PathChecks.SharedMarks.{all_below}
use Rattle.reach_engine_marks.proofs.path_checks.first.first_fault.Goals as goal

pub loop-first-preserved : goal.loop-first-preserved
loop-first-preserved c = record { within = omega arith; clean = λ v lt. at v lt (cases_lt v c.loop-first.first) }
  where
    at : (v : ℕ) → v < c.loop-first.first + c.min-count.result → (v < c.loop-first.first) ⊎ (c.loop-first.first ≤ v)
        → IsClean (numbered c.args.g.now) (subject_step (entries_with c.args.entries.now c.args.marks.now c.args.sharing.now) v)
    at v lt (inl l) = c.loop-first.invariant.clean v l
    at v lt (inr le) =
        let shared : c.as_slice.result.now ≡ shared_from 0 c.args.marks.now = c.as_slice.ensures.value ∙ c.in_ok-shared.ensures in
        let R : List Entry → Type 0 = λ v. IsFirstOfChunk c.args.g.now (entries_among c.args.entries.now v c.args.sharing.now) c.loop-first.first c.min-count.result c.in_ok-fault.field-0 in
        let Q : Option PathFault → Type 0 = λ o. IsFirstOfChunk c.args.g.now (entries_with c.args.entries.now c.args.marks.now c.args.sharing.now) c.loop-first.first c.min-count.result o in
        let chunk : IsFirstOfChunk c.args.g.now (entries_with c.args.entries.now c.args.marks.now c.args.sharing.now) c.loop-first.first c.min-count.result None =
        subst Q c.in_default.is (subst R shared c.in_ok-fault.ensures) in
        let place : c.loop-first.first + (v - c.loop-first.first) ≡ v = omega arith in
        subst (λ x. IsClean (numbered c.args.g.now) (subject_step (entries_with c.args.entries.now c.args.marks.now c.args.sharing.now) x)) place (chunk (v - c.loop-first.first) (omega arith))

pub returns-in-Some : goal.returns-in-Some
returns-in-Some c = λ table agrees.
    let shared : c.as_slice.result.now ≡ shared_from 0 c.args.marks.now = c.as_slice.ensures.value ∙ c.in_ok-shared.ensures in
    let R : List Entry → Type 0 = λ v. IsFirstOfChunk c.args.g.now (entries_among c.args.entries.now v c.args.sharing.now) c.loop-first.first c.min-count.result c.in_ok-fault.field-0 in
    let Q : Option PathFault → Type 0 = λ o. IsFirstOfChunk c.args.g.now (entries_with c.args.entries.now c.args.marks.now c.args.sharing.now) c.loop-first.first c.min-count.result o in
    chunk_fault_first c.args.g.now c.args.f.now c.requires.graph (entries_with c.args.entries.now c.args.marks.now c.args.sharing.now) table agrees c.loop-first.first c.min-count.result
    c.in-Some.fault c.loop-first.invariant.clean (subst Q c.in-Some.is (subst R shared c.in_ok-fault.ensures))

pub returns : goal.returns
returns c = λ table agrees. nothing_shown c.args.g.now c.args.f.now c.requires.graph (entries_with c.args.entries.now c.args.marks.now c.args.sharing.now) table agrees
    (λ subject. at table agrees subject (cases_lt subject c.loop-first.first))
  where
    at : (table : Item → List Entry) → AgreesWith c.args.g.now (entries_with c.args.entries.now c.args.marks.now c.args.sharing.now) table → (subject : ℕ)
        → (subject < c.loop-first.first) ⊎ (c.loop-first.first ≤ subject) → IsClean (numbered c.args.g.now) (subject_step (entries_with c.args.entries.now c.args.marks.now c.args.sharing.now) subject)
    at table agrees subject (inl lt) = c.loop-first.invariant.clean subject lt
    at table agrees subject (inr le) =
        absent_clean c.args.g.now c.args.f.now c.requires.graph (entries_with c.args.entries.now c.args.marks.now c.args.sharing.now) table agrees subject
        (λ i. All-weaker (λ (e : Entry). e.subject < c.subject_bound-subjects.result) (λ (e : Entry). e.subject ≡ subject → ⊥)
        (λ e lt same. omega arith) (entries_with c.args.entries.now c.args.marks.now c.args.sharing.now i)
        (all_below c.subject_bound-subjects.result c.args.entries.now c.args.marks.now c.args.sharing.now i (omega arith) (c.subject_bound-subjects.ensures.above i)))
