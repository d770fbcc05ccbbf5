use Rattle.std.proofs.Common.{◌≡◌, ◌≢◌, ℕ, zero, suc, ◌+◌, ◌*◌, ◌<◌, ◌≤◌, List, [], ◌∷◌, ◌++◌, length, get_or, set, replicate, refl}
use Rattle.std.proofs.Common.{sym, ap, ap₂, ◌∙◌, subst, arith, ◌⊎◌, inl, inr, Option, Some, None, Bool, true, false, not, cond}
use Rattle.std.specs.Prelude.{IfSome, count_by}
use Rattle.std.specs.List.{slice_get}
use Rattle.std.proofs.lemmas.Option.{same_Some, none-some, slice_get_within}
use Rattle.std.proofs.lemmas.List.{length_push, append-nil, length-replicate, get_or-replicate, get_or_past, get_or-set_same, get_or-set_other, length-set}
use Rattle.std.proofs.lemmas.List.Sums.{sum_by-set}
use Rattle.std.proofs.lemmas.List.Folds.{sum_by-replicate}
use Rattle.std.proofs.lemmas.Nat.{same_from_place, mul-add-lt}
use Rattle.std.proofs.lemmas.Bool.{cases_eq, cases_lt}
use Rattle.sil_ast.specs.declared.place.EdgeId.{EdgeId}
use Rattle.sil_cfg.specs.Flow.{Flow, block_count, edge_to}
use Rattle.reach_engine.specs.declared.scan.Step.{Step}
use Rattle.reach_engine.specs.declared.frontier.Visit.{Visit}
use Rattle.reach_engine.specs.declared.frontier.Fault.{Fault}
use Rattle.reach_engine.specs.inner.Table.{mark_at}
use Rattle.reach_engine.specs.inner.Frontier.{Noted, IsQueued, EdgeDone, VisitDone, IsNext, IsRoot, IsReached, IsFault, IsFront}

-- elements of a list with one more
pub kept_get : {A : Type 0} (q : List A) (more : List A) (k : ℕ) (v : A) → slice_get q k ≡ Some v → slice_get (q ++ more) k ≡ Some v
kept_get [] more k v h = absurd (none-some v h)
kept_get (x ∷ q) more zero v h = h
kept_get (x ∷ q) more (suc k) v h = kept_get q more k v h

pub last_get : {A : Type 0} (q : List A) (x : A) → slice_get (q ++ x ∷ []) (length q) ≡ Some x
last_get [] x = refl
last_get (y ∷ q) x = last_get q x

pub pushed_get : {A : Type 0} (q : List A) (x : A) (k : ℕ) (v : A) → slice_get (q ++ x ∷ []) k ≡ Some v → (slice_get q k ≡ Some v) ⊎ ((k ≡ length q) × (x ≡ v))
pushed_get [] x zero v h = inr (refl, same_Some x v h)
pushed_get [] x (suc k) v h = absurd (none-some v h)
pushed_get (y ∷ q) x zero v h = inl h
pushed_get (y ∷ q) x (suc k) v h = at (pushed_get q x k v h)
  where
    at : (slice_get q k ≡ Some v) ⊎ ((k ≡ length q) × (x ≡ v)) → (slice_get (y ∷ q) (suc k) ≡ Some v) ⊎ ((suc k ≡ length (y ∷ q)) × (x ≡ v))
    at (inl e) = inl e
    at (inr e) = inr (ap suc e.0, e.1)

count_set : (xs : List Bool) (i : ℕ) → i < length xs → get_or xs i false ≡ false → suc (count_by not (set xs i true)) ≡ count_by not xs
count_set xs i lt h =
    let e : count_by not (set xs i true) + cond {A = ℕ} (not (get_or xs i false)) 1 0 ≡ count_by not xs + 0 = sum_by-set (λ x. cond (not x) 1 0) xs i true false lt in
    let one : cond {A = ℕ} (not (get_or xs i false)) 1 0 ≡ 1 = ap (λ b. cond {A = ℕ} (not b) 1 0) h in
    omega arith

-- marks
mark_kept : (seen : List Bool) (states b s c t : ℕ) → s < states → t < states → b * states + s < length seen →
    mark_at (set seen (b * states + s) true) states c t ≡ true → ((c ≡ b) × (t ≡ s)) ⊎ (mark_at seen states c t ≡ true)
mark_kept seen states b s c t ls lt within h = at (cases_eq (c * states + t) (b * states + s))
  where
    at : (c * states + t ≡ b * states + s) ⊎ (c * states + t ≢ b * states + s) → ((c ≡ b) × (t ≡ s)) ⊎ (mark_at seen states c t ≡ true)
    at (inl e) = inl (same_from_place c t b s states lt ls e)
    at (inr n) = inr (sym (get_or-set_other seen (b * states + s) (c * states + t) true false n) ∙ h)

mark_stays : (seen : List Bool) (states b s c t : ℕ) → b * states + s < length seen → mark_at seen states c t ≡ true → mark_at (set seen (b * states + s) true) states c t ≡ true
mark_stays seen states b s c t within h = at (cases_eq (c * states + t) (b * states + s))
  where
    at : (c * states + t ≡ b * states + s) ⊎ (c * states + t ≢ b * states + s) → mark_at (set seen (b * states + s) true) states c t ≡ true
    at (inl e) = ap (λ k. get_or (set seen (b * states + s) true) k false) e ∙ get_or-set_same seen (b * states + s) true false within
    at (inr n) = get_or-set_other seen (b * states + s) (c * states + t) true false n ∙ h

mark_set : (seen : List Bool) (states b s : ℕ) → b * states + s < length seen → mark_at (set seen (b * states + s) true) states b s ≡ true
mark_set seen states b s within = get_or-set_same seen (b * states + s) true false within

pub Noted_more : (best : Option Fault) (code n m : ℕ) → n ≤ m → Noted best code n → Noted best code m
Noted_more None code n m le h = elim h [ ]
Noted_more (Some b) code n m le (inl h) = inl h
Noted_more (Some b) code n m le (inr h) = inr (h.0, omega arith)

pub IsQueued_more : (q : List Visit) (b s n m : ℕ) → n ≤ m → IsQueued q b s n → IsQueued q b s m
IsQueued_more q b s n m le h = record { at = h.at; visit = h.visit; there = h.there; block_is = h.block_is; state_is = h.state_is; near = omega arith }

pub IsQueued_kept : (q more : List Visit) (b s n : ℕ) → IsQueued q b s n → IsQueued (q ++ more) b s n
IsQueued_kept q more b s n h = record { at = h.at; visit = h.visit; there = kept_get q more h.at h.visit h.there; block_is = h.block_is; state_is = h.state_is; near = h.near }

-- more visits and a better best leave what is done
pub EdgeDone_more : (g : Flow ℕ) (f : ℕ → ℕ → Step) (q more : List Visit) (best next : Option Fault) (v : Visit) (e : EdgeId) →
    ((code n : ℕ) → Noted best code n → Noted next code n) → EdgeDone g f q best v e → EdgeDone g f (q ++ more) next v e
EdgeDone_more g f q more best next v e keeps h = record {
  goes = λ t r. IsQueued_kept q more (edge_to g e) t (suc v.depth) (h.goes t r);
  breaks = λ m code r b. keeps code (suc v.depth) (h.breaks m code r b);
}

pub VisitDone_more : (g : Flow ℕ) (f : ℕ → ℕ → Step) (q more : List Visit) (best next : Option Fault) (v : Visit) →
    ((code n : ℕ) → Noted best code n → Noted next code n) → VisitDone g f q best v → VisitDone g f (q ++ more) next v
VisitDone_more g f q more best next v keeps h = record {
  block = λ code r. keeps code v.depth (h.block code r);
  edges = λ e is from. EdgeDone_more g f q more best next v e keeps (h.edges e is from);
}

IsReached_kept : (g : Flow ℕ) (f : ℕ → ℕ → Step) (q more : List Visit) (k : ℕ) (v : Visit) → IsReached g f q k v → IsReached g f (q ++ more) k v
IsReached_kept g f q more k v (inl h) = inl h
IsReached_kept g f q more k v (inr h) = inr (record { parent = h.parent; there = kept_get q more v.parent h.parent h.there; earlier = h.earlier; next = h.next })

IsFault_kept : (g : Flow ℕ) (f : ℕ → ℕ → Step) (q more : List Visit) (best : Option Fault) → IfSome best (IsFault g f q) → IfSome best (IsFault g f (q ++ more))
IsFault_kept g f q more None h = h
IsFault_kept g f q more (Some b) h = record { visit = h.visit; there = kept_get q more b.visit h.visit h.there; reaches = h.reaches; length_is = h.length_is }

each_pushed : (P : ℕ → Visit → Type 0) (q : List Visit) (new : Visit) → ((k : ℕ) (v : Visit) → slice_get q k ≡ Some v → P k v) → P (length q) new →
    (k : ℕ) (v : Visit) → slice_get (q ++ new ∷ []) k ≡ Some v → P k v
each_pushed P q new old here k v h = at (pushed_get q new k v h)
  where
    at : (slice_get q k ≡ Some v) ⊎ ((k ≡ length q) × (new ≡ v)) → P k v
    at (inl e) = old k v e
    at (inr e) = let Q : ℕ → Type 0 = λ n. P n v in let R : Visit → Type 0 = λ x. P (length q) x in subst Q (sym e.0) (subst R e.1 here)

same_visit : (q : List Visit) (k : ℕ) (u v : Visit) → slice_get q k ≡ Some u → slice_get q k ≡ Some v → u ≡ v
same_visit q k u v a b = same_Some u v (sym a ∙ b)

-- one more visit, which was not seen before
pub front_push : (g : Flow ℕ) (f : ℕ → ℕ → Step) (states : ℕ) (q : List Visit) (seen : List Bool) (best : Option Fault) (at : ℕ) (v new : Visit) →
    IsFront g f states q seen best at → slice_get q at ≡ Some v → IsNext g f v new → new.parent ≡ at →
    new.block < block_count g → new.state < states → mark_at seen states new.block new.state ≡ false →
    IsFront g f states (q ++ new ∷ []) (set seen (new.block * states + new.state) true) best at
front_push g f states q seen best at v new front there next parent block_in state_in unseen =
    let at_in : at < length q = slice_get_within q at v there in
    let v_shallow : v.depth ≤ at = front.shallow at v there in
    let deeper : new.depth ≡ suc v.depth = next.deeper in
    let size : length seen ≡ block_count g * states = front.size in
    let place : new.block * states + new.state < length seen = omega (arith, mul-add-lt new.block states new.state (block_count g) block_in state_in) in
    let more : length (q ++ new ∷ []) ≡ length q + 1 = length_push q new in
    let fewer : suc (count_by not (set seen (new.block * states + new.state) true)) ≡ count_by not seen = count_set seen (new.block * states + new.state) place unseen in
    let same_length : length (set seen (new.block * states + new.state) true) ≡ length seen = length-set seen (new.block * states + new.state) true in
    let room : length q + count_by not seen ≡ length seen = front.room in
    record {
      reached = each_pushed (λ k w. IsReached g f (q ++ new ∷ []) k w) q new
          (λ k w h. IsReached_kept g f q (new ∷ []) k w (front.reached k w h))
          (inr (record { parent = v; there = ap (slice_get (q ++ new ∷ [])) parent ∙ kept_get q (new ∷ []) at v there; earlier = omega arith; next = next }));
      block_in = each_pushed (λ k w. w.block < block_count g) q new front.block_in block_in;
      state_in = each_pushed (λ k w. w.state < states) q new front.state_in state_in;
      shallow = each_pushed (λ k w. w.depth ≤ k) q new front.shallow (omega arith);
      sorted = λ i j u w le a b. each_pushed (λ k x. (i : ℕ) (u : Visit) → i ≤ k → slice_get (q ++ new ∷ []) i ≡ Some u → u.depth ≤ x.depth) q new
          (λ k x h i u le c0. each_pushed (λ i u. i ≤ k → u.depth ≤ x.depth) q new (λ i u c le. front.sorted i k u x le c h)
          (λ le. absurd (let lt : k < length q = slice_get_within q k x h in omega arith)) i u c0 le)
          (λ i u le c0. each_pushed (λ i u. u.depth ≤ new.depth) q new (λ i u c. let n : u.depth ≤ suc v.depth = front.near i u v there c in omega arith) (omega arith) i u c0)
          j w b i u le a;
      near = λ j u w a b.
          let same : v ≡ w = same_visit (q ++ new ∷ []) at v w (kept_get q (new ∷ []) at v there) a in
          let close : u.depth ≤ suc v.depth = each_pushed (λ k x. x.depth ≤ suc v.depth) q new (λ k x h. front.near k x v there h) (omega arith) j u b in
          subst (λ (x : Visit). u.depth ≤ suc x.depth) same close;
      marked = each_pushed (λ k w. mark_at (set seen (new.block * states + new.state) true) states w.block w.state ≡ true) q new
          (λ k w h. mark_stays seen states new.block new.state w.block w.state place (front.marked k w h))
          (mark_set seen states new.block new.state place);
      queued = λ b s lb ls h. queued_more b s (mark_kept seen states new.block new.state b s state_in ls place h) lb ls;
      size = same_length ∙ size;
      room = omega arith;
      first = omega arith;
      done = λ k w lt h. each_pushed (λ k w. k < at → VisitDone g f (q ++ new ∷ []) best w) q new
          (λ k w h lt. VisitDone_more g f q (new ∷ []) best best w (λ c n x. x) (front.done k w lt h)) (λ lt. absurd (omega arith)) k w h lt;
      fault = IsFault_kept g f q (new ∷ []) best front.fault;
    }
  where
    queued_more : (b s : ℕ) → ((b ≡ new.block) × (s ≡ new.state)) ⊎ (mark_at seen states b s ≡ true) → b < block_count g → s < states → (n : ℕ) × IsQueued (q ++ new ∷ []) b s n
    queued_more b s (inl e) lb ls = (new.depth, record { at = length q; visit = new; there = last_get q new; block_is = sym e.0; state_is = sym e.1; near = omega arith })
    queued_more b s (inr m) lb ls = let r = front.queued b s lb ls m in (r.0, IsQueued_kept q (new ∷ []) b s r.0 r.1)

-- another best fault
pub front_note : (g : Flow ℕ) (f : ℕ → ℕ → Step) (states : ℕ) (q : List Visit) (seen : List Bool) (best next : Option Fault) (at : ℕ) →
    IsFront g f states q seen best at → ((code n : ℕ) → Noted best code n → Noted next code n) → IfSome next (IsFault g f q) →
    IsFront g f states q seen next at
front_note g f states q seen best next at front keeps is_fault = record {
  reached = front.reached;
  block_in = front.block_in;
  state_in = front.state_in;
  shallow = front.shallow;
  sorted = front.sorted;
  near = front.near;
  marked = front.marked;
  queued = front.queued;
  size = front.size;
  room = front.room;
  first = front.first;
  done = λ k v lt h. subst (λ z. VisitDone g f z next v) (append-nil q) (VisitDone_more g f q [] best next v keeps (front.done k v lt h));
  fault = is_fault;
}

-- the next visit
pub front_next : (g : Flow ℕ) (f : ℕ → ℕ → Step) (states : ℕ) (q : List Visit) (seen : List Bool) (best : Option Fault) (at : ℕ) (v : Visit) →
    IsFront g f states q seen best at → slice_get q at ≡ Some v → VisitDone g f q best v → IsFront g f states q seen best (at + 1)
front_next g f states q seen best at v front there is_done = record {
  reached = front.reached;
  block_in = front.block_in;
  state_in = front.state_in;
  shallow = front.shallow;
  sorted = front.sorted;
  near = λ j u w a b.
      let close : u.depth ≤ suc v.depth = front.near j u v there b in
      let order : v.depth ≤ w.depth = front.sorted at (at + 1) v w (omega arith) there a in
      omega arith;
  marked = front.marked;
  queued = front.queued;
  size = front.size;
  room = front.room;
  first = front.first;
  done = λ k w lt h. done_at k w lt h (cases_eq k at);
  fault = front.fault;
}
  where
    done_at : (k : ℕ) (w : Visit) → k < at + 1 → slice_get q k ≡ Some w → (k ≡ at) ⊎ (k ≢ at) → VisitDone g f q best w
    done_at k w lt h (inl e) = subst (VisitDone g f q best) (same_visit q at v w there (ap (slice_get q) (sym e) ∙ h)) is_done
    done_at k w lt h (inr n) = front.done k w (omega arith) h

count_none : (n : ℕ) → count_by not (replicate n false) ≡ n
count_none n =
    let e : count_by not (replicate n false) ≡ n * 1 = sum_by-replicate (λ b. cond {A = ℕ} (not b) 1 0) n false in
    omega arith

no_mark : (n k : ℕ) → get_or (replicate n false) k false ≡ true → ⊥
no_mark n k h = at (cases_lt k n)
  where
    at : (k < n) ⊎ (n ≤ k) → ⊥
    at (inl lt) = let e : get_or (replicate n false) k false ≡ false = get_or-replicate n k false false lt in cc
    at (inr le) = let l : length (replicate n false) ≡ n = length-replicate n false in let e : get_or (replicate n false) k false ≡ false = get_or_past (replicate n false) k false (omega arith) in cc

-- the search begins
pub front_start : (g : Flow ℕ) (f : ℕ → ℕ → Step) (states : ℕ) (root : Visit) → 0 < block_count g → 0 < states →
    root.block ≡ 0 → root.state ≡ 0 → root.depth ≡ 0 →
    IsFront g f states (root ∷ []) (set (replicate (block_count g * states) false) 0 true) None 0
front_start g f states root some_block some_state block state depth =
    let length_is : length (replicate (block_count g * states) false) ≡ block_count g * states = length-replicate (block_count g * states) false in
    let place : 0 * states + 0 < length (replicate (block_count g * states) false) = omega (arith, mul-add-lt 0 states 0 (block_count g) some_block some_state) in
    let same_length : length (set (replicate (block_count g * states) false) 0 true) ≡ length (replicate (block_count g * states) false) =
    length-set (replicate (block_count g * states) false) 0 true in
    let clear : get_or (replicate (block_count g * states) false) 0 false ≡ false = get_or-replicate (block_count g * states) 0 false false (omega arith) in
    let fewer : suc (count_by not (set (replicate (block_count g * states) false) 0 true)) ≡ count_by not (replicate (block_count g * states) false) =
    count_set (replicate (block_count g * states) false) 0 (omega arith) clear in
    let none : count_by not (replicate (block_count g * states) false) ≡ block_count g * states = count_none (block_count g * states) in
    record {
      reached = λ k v h. inl (at_root k v h);
      block_in = λ k v h. let r : v.block ≡ 0 = (at_root k v h).block in omega arith;
      state_in = λ k v h. let r : v.state ≡ 0 = (at_root k v h).state in omega arith;
      shallow = λ k v h. let r : v.depth ≡ 0 = (at_root k v h).depth in omega arith;
      sorted = λ i j u v le a b. let r : u.depth ≡ 0 = (at_root i u a).depth in omega arith;
      near = λ j u v a b. let r : u.depth ≡ 0 = (at_root j u b).depth in omega arith;
      marked = λ k v h. ap₂ (λ b s. mark_at (set (replicate (block_count g * states) false) 0 true) states b s) (at_root k v h).block (at_root k v h).state ∙ first_mark place;
      queued = λ b s lb ls h. queued_first b s ls h;
      size = same_length ∙ length_is;
      room = omega arith;
      first = omega arith;
      done = λ k v lt h. absurd (omega arith);
      fault = tt;
    }
  where
    at_root : (k : ℕ) (v : Visit) → slice_get (root ∷ []) k ≡ Some v → IsRoot k v
    at_root zero v h = subst (IsRoot 0) (same_Some root v h) (record { first = refl; block = block; state = state; depth = depth })
    at_root (suc k) v h = absurd (none-some v h)

    zero_place : 0 * states + 0 ≡ 0
    zero_place = omega arith

    first_mark : 0 * states + 0 < length (replicate (block_count g * states) false) → mark_at (set (replicate (block_count g * states) false) 0 true) states 0 0 ≡ true
    first_mark lt = ap (λ k. get_or (set (replicate (block_count g * states) false) 0 true) k false) zero_place
        ∙ get_or-set_same (replicate (block_count g * states) false) 0 true false (subst (λ k. k < length (replicate (block_count g * states) false)) zero_place lt)

    root_queued : (b s : ℕ) → (b ≡ 0) × (s ≡ 0) → (n : ℕ) × IsQueued (root ∷ []) b s n
    root_queued b s e = (root.depth, record { at = 0; visit = root; there = refl; block_is = block ∙ sym e.0; state_is = state ∙ sym e.1; near = omega arith })

    first_or_none : (b s : ℕ) → s < states → mark_at (set (replicate (block_count g * states) false) 0 true) states b s ≡ true → (b * states + s ≡ 0) ⊎ (b * states + s ≢ 0)
        → (n : ℕ) × IsQueued (root ∷ []) b s n
    first_or_none b s ls h (inl e) = root_queued b s (same_from_place b s 0 0 states ls some_state (e ∙ sym zero_place))
    first_or_none b s ls h (inr n) = absurd (no_mark (block_count g * states) (b * states + s) (sym (get_or-set_other (replicate (block_count g * states) false) 0 (b * states + s) true false n) ∙ h))

    queued_first : (b s : ℕ) → s < states → mark_at (set (replicate (block_count g * states) false) 0 true) states b s ≡ true → (n : ℕ) × IsQueued (root ∷ []) b s n
    queued_first b s ls h = first_or_none b s ls h (cases_eq (b * states + s) 0)
