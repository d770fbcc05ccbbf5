-- The automaton of five states decides the order of two slots.
use Rattle.std.proofs.Common.{◌≡◌, ◌≢◌, ℕ, List, [], ◌∷◌, ◌++◌, refl, sym, ap, ◌∙◌, subst, Some, append_assoc}
use Rattle.std.proofs.lemmas.List.{append-nil}
use Rattle.std.proofs.lemmas.List.Elements.{All-nil, All-cons, All-append, All-push, All-pop}
use Rattle.reach_engine.specs.declared.scan.Step.{Step}
use Rattle.reach_engine.specs.declared.scan.Step.TheVariants.{Go, Bad}
use Rattle.reach_engine.specs.inner.Run.{run}
use Rattle.reach_engine.proofs.Runs.{run_split, same_Go}
use Rattle.memory_rules_accesses.specs.reach_engine_marks.PathPatterns.inner.Decides.{Judges, Decides}
use Rattle.memory_rules_accesses.proofs.reach_engine_marks.PathPatterns.PushedMarks.{PushedAt, there, behind, pushed_at}
use Rattle.memory_rules_slots.specs.declared.mark.SlotMark.{SlotMark}
use Rattle.memory_rules_slots.specs.declared.mark.SlotMark.TheVariants.{FirstIn, FirstOut, SecondIn, SecondOut}
use Rattle.memory_rules_slots.specs.Order.{IsIn, IsAfter, IsOrdered, code_of}
use Rattle.memory_rules_slots.specs.inner.Automaton.{order_step}

abbrev FirstIsIn : List SlotMark → Type 0
FirstIsIn marks = IsIn FirstIn FirstOut marks

abbrev SecondIsIn : List SlotMark → Type 0
SecondIsIn marks = IsIn SecondIn SecondOut marks

-- which slots are in, and which of them is the later one
data IsAt (marks : List SlotMark) : ℕ → Type 0 where
  neither : (FirstIsIn marks → ⊥) → (SecondIsIn marks → ⊥) → IsAt marks 0
  first : FirstIsIn marks → (SecondIsIn marks → ⊥) → IsAt marks 1
  second : (FirstIsIn marks → ⊥) → SecondIsIn marks → IsAt marks 2
  later : FirstIsIn marks → SecondIsIn marks → IsAfter marks → IsAt marks 3
  earlier : FirstIsIn marks → SecondIsIn marks → (IsAfter marks → ⊥) → IsAt marks 4

abbrev Leads : List SlotMark → Step → Type 0
Leads marks (Go t) = IsAt marks t
Leads marks (Bad c) = Unit {0}

none_before : {A : Type 0} (before since : List A) (x : A) → [] ≡ before ++ x ∷ since → ⊥
none_before [] since x e = cc
none_before (y ∷ before) since x e = cc

-- one mark more, of those that let a slot in or out
enter : (enters leaves : SlotMark) (marks : List SlotMark) → IsIn enters leaves (marks ++ enters ∷ [])
enter enters leaves marks = record { before = marks; since = []; parts = refl; stays = All-nil (λ m. m ≢ leaves) }

stay : (enters leaves mark : SlotMark) (marks : List SlotMark) → mark ≢ leaves → IsIn enters leaves marks → IsIn enters leaves (marks ++ mark ∷ [])
stay enters leaves mark marks other h = record {
  before = h.before;
  since = h.since ++ mark ∷ [];
  parts = ap (λ v. v ++ mark ∷ []) h.parts ∙ append_assoc h.before (enters ∷ h.since) (mark ∷ []);
  stays = All-push (λ m. m ≢ leaves) h.since mark h.stays other;
}

out : (enters leaves mark : SlotMark) (marks : List SlotMark) → mark ≢ enters → (IsIn enters leaves marks → ⊥) → IsIn enters leaves (marks ++ mark ∷ []) → ⊥
out enters leaves mark marks other none h = at (pushed_at marks mark h.before enters h.since h.parts)
  where
    at : PushedAt marks mark h.before enters h.since → ⊥
    at (there s m p) = other m
    at (behind more s p) = none (record { before = h.before; since = more; parts = p; stays = (All-pop (λ m. m ≢ leaves) h.since more (Some mark) s h.stays).0 })

leave : (enters leaves : SlotMark) (marks : List SlotMark) → leaves ≢ enters → IsIn enters leaves (marks ++ leaves ∷ []) → ⊥
leave enters leaves marks other h = at (pushed_at marks leaves h.before enters h.since h.parts)
  where
    at : PushedAt marks leaves h.before enters h.since → ⊥
    at (there s m p) = other m
    at (behind more s p) = (All-pop (λ m. m ≢ leaves) h.since more (Some leaves) s h.stays).1 refl

-- one mark more behind a second slot that is the later one
pub first_of : (marks : List SlotMark) → IsAfter marks → FirstIsIn marks
first_of marks h = record {
  before = h.first_in.before;
  since = h.first_in.since ++ SecondIn ∷ h.since;
  parts = h.parts ∙ ap (λ v. v ++ SecondIn ∷ h.since) h.first_in.parts ∙ append_assoc h.first_in.before (FirstIn ∷ h.first_in.since) (SecondIn ∷ h.since);
  stays = All-append (λ m. m ≢ FirstOut) h.first_in.since (SecondIn ∷ h.since) h.first_in.stays (All-cons (λ m. m ≢ FirstOut) SecondIn h.since (λ e. cc) h.first_stays);
}

pub second_of : (marks : List SlotMark) → IsAfter marks → SecondIsIn marks
second_of marks h = record { before = h.before; since = h.since; parts = h.parts; stays = h.second_stays }

after_first : (marks : List SlotMark) → FirstIsIn marks → (SecondIsIn marks → ⊥) → IsAfter (marks ++ SecondIn ∷ [])
after_first marks f s = record { before = marks; since = []; parts = refl; first_in = f; second_out = s; first_stays = All-nil (λ m. m ≢ FirstOut); second_stays = All-nil (λ m. m ≢ SecondOut) }

after_stays : (marks : List SlotMark) (mark : SlotMark) → mark ≢ FirstOut → mark ≢ SecondOut → IsAfter marks → IsAfter (marks ++ mark ∷ [])
after_stays marks mark a b h = record {
  before = h.before;
  since = h.since ++ mark ∷ [];
  parts = ap (λ v. v ++ mark ∷ []) h.parts ∙ append_assoc h.before (SecondIn ∷ h.since) (mark ∷ []);
  first_in = h.first_in;
  second_out = h.second_out;
  first_stays = All-push (λ m. m ≢ FirstOut) h.since mark h.first_stays a;
  second_stays = All-push (λ m. m ≢ SecondOut) h.since mark h.second_stays b;
}

-- a second slot that was in already isn't later by a mark more
not_after : (marks : List SlotMark) (mark : SlotMark) → SecondIsIn marks → (IsAfter marks → ⊥) → IsAfter (marks ++ mark ∷ []) → ⊥
not_after marks mark s none h = at (pushed_at marks mark h.before SecondIn h.since h.parts)
  where
    at : PushedAt marks mark h.before SecondIn h.since → ⊥
    at (there e m p) = h.second_out (subst SecondIsIn p s)
    at (behind more e p) = none (record {
      before = h.before;
      since = more;
      parts = p;
      first_in = h.first_in;
      second_out = h.second_out;
      first_stays = (All-pop (λ m. m ≢ FirstOut) h.since more (Some mark) e h.first_stays).0;
      second_stays = (All-pop (λ m. m ≢ SecondOut) h.since more (Some mark) e h.second_stays).0;
    })

push_at : (marks : List SlotMark) (mark : SlotMark) (s : ℕ) → IsAt marks s → Leads (marks ++ mark ∷ []) (order_step s mark)
push_at marks FirstIn _ (neither f s) = first (enter FirstIn FirstOut marks) (out SecondIn SecondOut FirstIn marks (λ e. cc) s)
push_at marks FirstIn _ (first f s) = first (enter FirstIn FirstOut marks) (out SecondIn SecondOut FirstIn marks (λ e. cc) s)
push_at marks FirstIn _ (second f s) = earlier (enter FirstIn FirstOut marks) (stay SecondIn SecondOut FirstIn marks (λ e. cc) s) (not_after marks FirstIn s (λ a. f (first_of marks a)))
push_at marks FirstIn _ (later f s a) = later (enter FirstIn FirstOut marks) (stay SecondIn SecondOut FirstIn marks (λ e. cc) s) (after_stays marks FirstIn (λ e. cc) (λ e. cc) a)
push_at marks FirstIn _ (earlier f s n) = earlier (enter FirstIn FirstOut marks) (stay SecondIn SecondOut FirstIn marks (λ e. cc) s) (not_after marks FirstIn s n)
push_at marks FirstOut _ (neither f s) = neither (leave FirstIn FirstOut marks (λ e. cc)) (out SecondIn SecondOut FirstOut marks (λ e. cc) s)
push_at marks FirstOut _ (first f s) = neither (leave FirstIn FirstOut marks (λ e. cc)) (out SecondIn SecondOut FirstOut marks (λ e. cc) s)
push_at marks FirstOut _ (second f s) = second (leave FirstIn FirstOut marks (λ e. cc)) (stay SecondIn SecondOut FirstOut marks (λ e. cc) s)
push_at marks FirstOut _ (later f s a) = tt
push_at marks FirstOut _ (earlier f s n) = second (leave FirstIn FirstOut marks (λ e. cc)) (stay SecondIn SecondOut FirstOut marks (λ e. cc) s)
push_at marks SecondIn _ (neither f s) = second (out FirstIn FirstOut SecondIn marks (λ e. cc) f) (enter SecondIn SecondOut marks)
push_at marks SecondIn _ (first f s) = later (stay FirstIn FirstOut SecondIn marks (λ e. cc) f) (enter SecondIn SecondOut marks) (after_first marks f s)
push_at marks SecondIn _ (second f s) = second (out FirstIn FirstOut SecondIn marks (λ e. cc) f) (enter SecondIn SecondOut marks)
push_at marks SecondIn _ (later f s a) = later (stay FirstIn FirstOut SecondIn marks (λ e. cc) f) (enter SecondIn SecondOut marks) (after_stays marks SecondIn (λ e. cc) (λ e. cc) a)
push_at marks SecondIn _ (earlier f s n) = earlier (stay FirstIn FirstOut SecondIn marks (λ e. cc) f) (enter SecondIn SecondOut marks) (not_after marks SecondIn s n)
push_at marks SecondOut _ (neither f s) = neither (out FirstIn FirstOut SecondOut marks (λ e. cc) f) (leave SecondIn SecondOut marks (λ e. cc))
push_at marks SecondOut _ (first f s) = first (stay FirstIn FirstOut SecondOut marks (λ e. cc) f) (leave SecondIn SecondOut marks (λ e. cc))
push_at marks SecondOut _ (second f s) = neither (out FirstIn FirstOut SecondOut marks (λ e. cc) f) (leave SecondIn SecondOut marks (λ e. cc))
push_at marks SecondOut _ (later f s a) = first (stay FirstIn FirstOut SecondOut marks (λ e. cc) f) (leave SecondIn SecondOut marks (λ e. cc))
push_at marks SecondOut _ (earlier f s n) = first (stay FirstIn FirstOut SecondOut marks (λ e. cc) f) (leave SecondIn SecondOut marks (λ e. cc))

-- the automaton's state tells which slots are in
read_at : (before marks : List SlotMark) (s t : ℕ) → IsAt before s → run order_step (Go s) marks ≡ Go t → IsAt (before ++ marks) t
read_at before [] s t h e = subst (λ v. IsAt v t) (sym (append-nil before)) (subst (IsAt before) (same_Go s t e) h)
read_at before (mark ∷ marks) s t h e =
    let p = run_split order_step (Go s) (mark ∷ []) marks t e in
    let here : IsAt (before ++ mark ∷ []) p.0 = subst (Leads (before ++ mark ∷ [])) p.1 (push_at before mark s h) in
    subst (λ v. IsAt v t) (append_assoc before (mark ∷ []) marks) (read_at (before ++ mark ∷ []) marks p.0 t here p.2)

no_marks : IsAt [] 0
no_marks = neither (λ h. none_before h.before h.since FirstIn h.parts) (λ h. none_before h.before h.since SecondIn h.parts)

judged : (marks : List SlotMark) (mark : SlotMark) (s : ℕ) → IsAt marks s → Judges (order_step s mark) (IsOrdered marks mark) (code_of mark)
judged marks FirstIn _ (neither f s) = tt
judged marks FirstIn _ (first f s) = tt
judged marks FirstIn _ (second f s) = tt
judged marks FirstIn _ (later f s a) = tt
judged marks FirstIn _ (earlier f s n) = tt
judged marks FirstOut _ (neither f s) = λ a. f (first_of marks a)
judged marks FirstOut _ (first f s) = λ a. s (second_of marks a)
judged marks FirstOut _ (second f s) = λ a. f (first_of marks a)
judged marks FirstOut _ (later f s a) = (λ n. n a, refl)
judged marks FirstOut _ (earlier f s n) = n
judged marks SecondIn _ (neither f s) = tt
judged marks SecondIn _ (first f s) = tt
judged marks SecondIn _ (second f s) = tt
judged marks SecondIn _ (later f s a) = tt
judged marks SecondIn _ (earlier f s n) = tt
judged marks SecondOut _ (neither f s) = tt
judged marks SecondOut _ (first f s) = tt
judged marks SecondOut _ (second f s) = tt
judged marks SecondOut _ (later f s a) = tt
judged marks SecondOut _ (earlier f s n) = tt

pub order_decides : Decides order_step IsOrdered code_of
order_decides marks s mark e = judged marks mark s (read_at [] marks 0 s no_marks e)
