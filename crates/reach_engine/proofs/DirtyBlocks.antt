-- Dirty blocks: what isn't dirty is done, and the work that is left becomes less.
use Rattle.std.proofs.Common.{◌≡◌, ◌≢◌, ℕ, suc, ◌+◌, ◌-◌, ◌*◌, ◌<◌, ◌≤◌, List, length, get_or, set, sum, refl, sym, ap, ◌∙◌, subst, arith, ◌⊎◌, inl, inr, Bool, true, false, not, cond}
use Rattle.std.specs.Prelude.{count_by}
use Rattle.std.proofs.lemmas.Bool.{cases_eq}
use Rattle.std.proofs.lemmas.List.{get_or-set_same, get_or-set_other, length-set}
use Rattle.std.proofs.lemmas.List.Sums.{sum_by-set, count_by-le-length}
use Rattle.sil_ast.specs.declared.place.EdgeId.{EdgeId}
use Rattle.sil_cfg.specs.Flow.{Flow, block_count, edge_to, edge_item}
use Rattle.reach_engine.specs.declared.scan.Step.{Step}
use Rattle.reach_engine.specs.declared.scan.Step.TheVariants.{Go}
use Rattle.reach_engine.specs.inner.Bits.{bit_in}
use Rattle.reach_engine.specs.inner.Columns.{Has}
use Rattle.reach_engine.specs.inner.Reached.{RowHas, EdgeTaken, BlockTaken, MarksGains, IsSoFar, IsBlockDone, IsSettled, IsClosed, is_dirty, work_left, cap_of, DirtyTaken, Swept}
use Rattle.reach_engine.proofs.RowsAreSound.{so_far_more}

-- one edge more: its target is marked if it gained a subject
pub marks_more : (g : Flow ℕ) (f : ℕ → ℕ → ℕ → Step) (states subjects width : ℕ) (e : EdgeId) (bundle old now new before bad : List ℕ) (first dirty next : List Bool) (is_new here then : Bool) →
    edge_to g e < length dirty →
    MarksGains states subjects width old now first dirty is_new → EdgeTaken g f states subjects width e bundle now new before bad here →
    ((here ≡ true) × (then ≡ true) × (next ≡ set dirty (edge_to g e) true)) ⊎ ((here ≡ false) × (then ≡ is_new) × (next ≡ dirty)) →
    MarksGains states subjects width old new first next then
marks_more g f states subjects width e bundle old now new before bad first dirty next is_new here then within h taken (inl p) = record {
  stays = λ c t u lt lu m x. h.stays c t u lt lu (was_clean c m) (stays_at c t u lt lu m (taken.sound c t u lt lu x));
  kept = λ c m. h.kept c (was_clean c m);
  none = λ y. let z : then ≡ true = p.1 in absurd (cc);
}
  where
    apart : (c : ℕ) → is_dirty next c ≡ false → c ≢ edge_to g e
    apart c m same =
        let there : is_dirty next c ≡ true = ap (λ d. get_or d c false) p.2 ∙ ap (λ k. get_or (set dirty (edge_to g e) true) k false) same ∙ get_or-set_same dirty (edge_to g e) true false within in
        cc

    was_clean : (c : ℕ) → is_dirty next c ≡ false → is_dirty dirty c ≡ false
    was_clean c m = sym (get_or-set_other dirty (edge_to g e) c true false (apart c m)) ∙ ap (λ d. get_or d c false) (sym p.2) ∙ m

    stays_at : (c t u : ℕ) → t < states → u < subjects → is_dirty next c ≡ false
        → RowHas now states width c t u ⊎ ((c ≡ edge_to g e) × ((k : ℕ) × (k < states) × Has bundle width k u × (f u k (edge_item g e) ≡ Go t))) → RowHas now states width c t u
    stays_at c t u lt lu m (inl x) = x
    stays_at c t u lt lu m (inr x) = absurd (apart c m x.0)
marks_more g f states subjects width e bundle old now new before bad first dirty next is_new here then within h taken (inr p) = record {
  stays = λ c t u lt lu m x. h.stays c t u lt lu (ap (λ d. get_or d c false) (sym p.2) ∙ m) (subst (λ rows. RowHas rows states width c t u) (taken.none p.0) x);
  kept = λ c m. h.kept c (ap (λ d. get_or d c false) (sym p.2) ∙ m);
  none = λ y. p.2 ∙ h.none (sym p.1 ∙ y);
}

-- a block whose rows didn't change stays done
stays_done : (g : Flow ℕ) (f : ℕ → ℕ → ℕ → Step) (states subjects width : ℕ) (old new bad after : List ℕ) (b : ℕ) →
    ((t u : ℕ) → t < states → u < subjects → RowHas new states width b t u → RowHas old states width b t u) → ((u : ℕ) → u < subjects → bit_in bad u ≡ 1 → bit_in after u ≡ 1) →
    ((k : ℕ) → bit_in old k ≡ 1 → bit_in new k ≡ 1) → IsBlockDone g f states subjects width old old bad b → IsBlockDone g f states subjects width new new after b
stays_done g f states subjects width old new bad after b back kept up h = record {
  block = λ s code u ls lu x r. kept u lu (h.block s code u ls lu (back s u ls lu x) r);
  goes = λ e s t u is from ls lu x r. let p = h.goes e s t u is from ls lu (back s u ls lu x) r in (p.0, up _ p.1);
  breaks = λ e s m code u is from ls lu x r y. kept u lu (h.breaks e s m code u is from ls lu (back s u ls lu x) r y);
}

count_cleaned : (xs : List Bool) (i : ℕ) → i < length xs → get_or xs i false ≡ true → count_by not (set xs i false) ≡ suc (count_by not xs)
count_cleaned xs i lt h =
    let e : count_by not (set xs i false) + cond {A = ℕ} (not (get_or xs i false)) 1 0 ≡ count_by not xs + 1 = sum_by-set (λ x. cond (not x) 1 0) xs i false false lt in
    let none : cond {A = ℕ} (not (get_or xs i false)) 1 0 ≡ 0 = ap (λ b. cond {A = ℕ} (not b) 1 0) h in
    omega arith

more_blocks : (d e n : ℕ) → d < e → d * suc n + suc n ≤ e * suc n
more_blocks d e n lt = grind arith

-- a block that was taken leaves less work
pub less_work : (cap n : ℕ) (old new : List ℕ) (before cleaned after : List Bool) (b : ℕ) (is_new : Bool) → b < length before → length before ≡ n → is_dirty before b ≡ true →
    cleaned ≡ set before b false →
    sum new ≤ cap → (is_new ≡ false → new ≡ old) → (is_new ≡ false → after ≡ cleaned) → (is_new ≡ true → sum old < sum new) → work_left cap n new after < work_left cap n old before
less_work cap n old new before cleaned after b false within size was cleaned_is le rows_same same some =
    let fewer : count_by not cleaned ≡ suc (count_by not before) = ap (count_by not) cleaned_is ∙ count_cleaned before b within was in
    let long : length cleaned ≡ length before = ap length cleaned_is ∙ length-set before b false in
    let most : count_by not cleaned ≤ length cleaned = count_by-le-length not cleaned in
    let rows : sum new ≡ sum old = ap sum (rows_same refl) in
    let marks : count_by not after ≡ count_by not cleaned = ap (count_by not) (same refl) in
    let left : n - count_by not after < n - count_by not before = omega arith in
    let high : (cap - sum new) * suc n ≡ (cap - sum old) * suc n = ap (λ s. (cap - s) * suc n) rows in
    omega arith
less_work cap n old new before cleaned after b true within size was cleaned_is le rows_same same some =
    let rows : sum old < sum new = some refl in
    let high : (cap - sum new) * suc n + suc n ≤ (cap - sum old) * suc n = more_blocks (cap - sum new) (cap - sum old) n (omega arith) in
    omega arith

-- a dirty block was taken
pub dirty_taken : (g : Flow ℕ) (f : ℕ → ℕ → ℕ → Step) (states subjects width b : ℕ) (old new bad after : List ℕ) (dirty cleaned marked : List Bool) (is_new : Bool) →
    b < block_count g → subjects ≤ 64 * width →
    length new ≡ length old → length after ≡ length bad → length marked ≡ length dirty → sum new ≤ cap_of g states width →
    IsSettled g f states subjects width old bad dirty → is_dirty dirty b ≡ true → cleaned ≡ set dirty b false →
    BlockTaken g f states subjects width b old new bad after is_new → MarksGains states subjects width old new cleaned marked is_new →
    DirtyTaken g f states subjects width b old new after dirty marked true
dirty_taken g f states subjects width b old new bad after dirty cleaned marked is_new lb fits size bad_size dirty_size le h was cleaned_is t m = record {
  settled = record {
    so_far = so_far_more g f states subjects width b old new bad after is_new fits size bad_size h.so_far t;
    size = dirty_size ∙ h.size;
    done = λ c lc clean. done_at c lc clean (cases_eq c b);
  };
  rows_same = λ e. absurd (let x : true ≡ false = e in cc);
  dirty_same = λ e. absurd (let x : true ≡ false = e in cc);
  clean = λ e. absurd (let x : true ≡ false = e in cc);
  less = λ e. less_work (cap_of g states width) (block_count g) old new dirty cleaned marked b is_new (subst (λ n. b < n) (sym h.size) lb) h.size was cleaned_is le t.none m.none t.some;
}
  where
    taken_done : IsBlockDone g f states subjects width old new after b
    taken_done = record { block = t.block; goes = t.goes; breaks = t.breaks }

    done_at : (c : ℕ) → c < block_count g → is_dirty marked c ≡ false → (c ≡ b) ⊎ (c ≢ b) → IsBlockDone g f states subjects width new new after c
    done_at c lc clean (inl e) =
        let back : (s u : ℕ) → s < states → u < subjects → RowHas new states width b s u → RowHas old states width b s u =
        λ s u ls lu x. m.stays b s u ls lu (ap (is_dirty marked) (sym e) ∙ clean) x in
        let here : IsBlockDone g f states subjects width new new after b = record {
          block = λ s code u ls lu x r. taken_done.block s code u ls lu (back s u ls lu x) r;
          goes = λ d s v u is from ls lu x r. taken_done.goes d s v u is from ls lu (back s u ls lu x) r;
          breaks = λ d s k code u is from ls lu x r y. taken_done.breaks d s k code u is from ls lu (back s u ls lu x) r y;
        } in
        subst (IsBlockDone g f states subjects width new new after) (sym e) here
    done_at c lc clean (inr n) =
        let old_clean : is_dirty dirty c ≡ false = sym (get_or-set_other dirty b c false false n) ∙ ap (λ d. get_or d c false) (sym cleaned_is) ∙ m.kept c clean in
        stays_done g f states subjects width old new bad after c (λ s u ls lu x. m.stays c s u ls lu clean x) t.kept t.grows (h.done c lc old_clean)

pub swept_none : (g : Flow ℕ) (f : ℕ → ℕ → ℕ → Step) (states subjects width : ℕ) (rows bad : List ℕ) (dirty : List Bool) → IsSettled g f states subjects width rows bad dirty
    → Swept g f states subjects width rows rows bad dirty dirty 0 false
swept_none g f states subjects width rows bad dirty h = record {
  settled = h;
  rows_same = λ e. refl;
  dirty_same = λ e. refl;
  clean = λ e b lt. absurd (omega arith);
  less = λ e. absurd (let x : false ≡ true = e in cc);
}

-- one block more
pub swept_more : (g : Flow ℕ) (f : ℕ → ℕ → ℕ → Step) (states subjects width : ℕ) (first old new bad after : List ℕ) (before dirty marked : List Bool) (i : ℕ) (changed here then : Bool) →
    Swept g f states subjects width first old bad before dirty i changed → DirtyTaken g f states subjects width i old new after dirty marked here →
    ((here ≡ true) × (then ≡ true)) ⊎ ((here ≡ false) × (then ≡ changed)) → Swept g f states subjects width first new after before marked (i + 1) then
swept_more g f states subjects width first old new bad after before dirty marked i changed here then h t branch = record {
  settled = t.settled;
  rows_same = λ e. rows_at e branch;
  dirty_same = λ e. dirty_at e branch;
  clean = λ e b lt. clean_at e branch b lt (cases_eq b i);
  less = λ e. less_at e branch;
}
  where
    rows_at : then ≡ false → ((here ≡ true) × (then ≡ true)) ⊎ ((here ≡ false) × (then ≡ changed)) → new ≡ first
    rows_at e (inl p) = let y : then ≡ true = p.1 in absurd (cc)
    rows_at e (inr p) = t.rows_same p.0 ∙ h.rows_same (sym p.1 ∙ e)

    dirty_at : then ≡ false → ((here ≡ true) × (then ≡ true)) ⊎ ((here ≡ false) × (then ≡ changed)) → marked ≡ before
    dirty_at e (inl p) = let y : then ≡ true = p.1 in absurd (cc)
    dirty_at e (inr p) = t.dirty_same p.0 ∙ h.dirty_same (sym p.1 ∙ e)

    clean_at : then ≡ false → ((here ≡ true) × (then ≡ true)) ⊎ ((here ≡ false) × (then ≡ changed)) → (b : ℕ) → b < i + 1 → (b ≡ i) ⊎ (b ≢ i) → is_dirty marked b ≡ false
    clean_at e (inl p) b lt c = let y : then ≡ true = p.1 in absurd (cc)
    clean_at e (inr p) b lt (inl c) = ap (is_dirty marked) c ∙ t.clean p.0
    clean_at e (inr p) b lt (inr n) = ap (λ d. get_or d b false) (t.dirty_same p.0) ∙ h.clean (sym p.1 ∙ e) b (omega arith)

    same_before : changed ≡ false → work_left (cap_of g states width) (block_count g) old dirty ≡ work_left (cap_of g states width) (block_count g) first before
    same_before e = ap (λ r. work_left (cap_of g states width) (block_count g) r dirty) (h.rows_same e) ∙ ap (work_left (cap_of g states width) (block_count g) first) (h.dirty_same e)

    up : work_left (cap_of g states width) (block_count g) old dirty ≤ work_left (cap_of g states width) (block_count g) first before
    up = at changed refl
      where
        at : (v : Bool) → changed ≡ v → work_left (cap_of g states width) (block_count g) old dirty ≤ work_left (cap_of g states width) (block_count g) first before
        at true q = below _ _ (h.less q)
          where
            below : (a b : ℕ) → a < b → a ≤ b
            below a b lt = omega arith
        at false q = same _ _ (same_before q)
          where
            same : (a b : ℕ) → a ≡ b → a ≤ b
            same a b e = omega arith

    chain : (a b c : ℕ) → a < b → b ≤ c → a < c
    chain a b c p q = omega arith

    less_at : then ≡ true → ((here ≡ true) × (then ≡ true)) ⊎ ((here ≡ false) × (then ≡ changed))
        → work_left (cap_of g states width) (block_count g) new marked < work_left (cap_of g states width) (block_count g) first before
    less_at e (inl p) = chain _ _ _ (t.less p.0) up
    less_at e (inr p) =
        let same : work_left (cap_of g states width) (block_count g) new marked ≡ work_left (cap_of g states width) (block_count g) old dirty =
        ap (λ r. work_left (cap_of g states width) (block_count g) r marked) (t.rows_same p.0) ∙ ap (work_left (cap_of g states width) (block_count g) old) (t.dirty_same p.0) in
        subst (λ n. n < work_left (cap_of g states width) (block_count g) first before) (sym same) (h.less (sym p.1 ∙ e))

-- a sweep without a dirty block closes the rows
pub swept_closed : (g : Flow ℕ) (f : ℕ → ℕ → ℕ → Step) (states subjects width : ℕ) (old new bad : List ℕ) (before after : List Bool) (i : ℕ) → block_count g ≤ i →
    Swept g f states subjects width old new bad before after i false →
    IsClosed g f states subjects width new bad
swept_closed g f states subjects width old new bad before after i le h = record {
  so_far = h.settled.so_far;
  done = λ b lb. h.settled.done b lb (h.clean refl b (omega arith));
}

-- at the start every block is dirty
pub all_dirty : (g : Flow ℕ) (f : ℕ → ℕ → ℕ → Step) (states subjects width : ℕ) (rows bad : List ℕ) (dirty : List Bool) → length dirty ≡ block_count g →
    ((b : ℕ) → b < block_count g → is_dirty dirty b ≡ true) →
    IsSoFar g f states subjects width rows bad → IsSettled g f states subjects width rows bad dirty
all_dirty g f states subjects width rows bad dirty size all h = record { so_far = h; size = size; done = λ b lb clean. absurd (let was : is_dirty dirty b ≡ true = all b lb in cc) }

-- a sweep leaves less work, or is the last one
pub swept_less : (g : Flow ℕ) (f : ℕ → ℕ → ℕ → Step) (states subjects width : ℕ) (old new bad : List ℕ) (before after : List Bool) (i : ℕ) (changed : Bool) →
    Swept g f states subjects width old new bad before after i changed →
    work_left (cap_of g states width) (block_count g) new after + cond {A = ℕ} changed 1 0 < work_left (cap_of g states width) (block_count g) old before + cond {A = ℕ} true 1 0
swept_less g f states subjects width old new bad before after i true h = more _ _ (h.less refl)
  where
    more : (a b : ℕ) → a < b → a + 1 < b + 1
    more a b lt = omega arith
swept_less g f states subjects width old new bad before after i false h =
    same _ _ (ap (λ r. work_left (cap_of g states width) (block_count g) r after) (h.rows_same refl) ∙ ap (work_left (cap_of g states width) (block_count g) old) (h.dirty_same refl))
  where
    same : (a b : ℕ) → a ≡ b → a + 0 < b + 1
    same a b e = omega arith
