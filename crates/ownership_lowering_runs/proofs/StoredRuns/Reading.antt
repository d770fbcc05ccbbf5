-- What an item takes under lowered numbers.
use Rattle.std.proofs.Common.{◌≡◌, ◌⊎◌, inl, inr, ⊎_elim, suc, List, [], ◌∷◌, ◌++◌, map, length, refl, sym, ap, ◌∙◌, subst, Bool, true, false, not, ◌&&◌, ◌||◌, Option, Some, Ok, eq-eqb}
use Rattle.std.specs.Prelude.{◌==◌}
use Rattle.std.specs.List.{AllZip}
use Rattle.std.proofs.lemmas.Bool.{and_parts, cases_Bool, eqb-false, eqb-true, false≢true, or_cases}
use Rattle.std.proofs.lemmas.List.{append-nil}
use Rattle.std.proofs.lemmas.Option.{none-some, same_Some}
use Rattle.instruction_table.specs.Forms.{roles_of}
use Rattle.numbered_form.specs.Lists.{Each}
use Rattle.sil_ast.specs.declared.function.Function.{Function}
use Rattle.sil_ast.specs.declared.inst.Inst.{Inst}
use Rattle.sil_ast.specs.declared.operands.Operand.{Operand}
use Rattle.sil_ast.specs.declared.place.PointId.{PointId}
use Rattle.sil_ast.specs.declared.place.ValueId.{ValueId}
use Rattle.sil_cfg.specs.declared.item.Item.{Item}
use Rattle.sil_cfg.specs.declared.item.Item.TheVariants as item
use Rattle.sil_cfg_items.specs.Items.{item_defined, taken_in}
use Rattle.sil_cfg_items.specs.Parts.{inst_at, results_in}
use Rattle.sil_cfg_items.specs.Roles.{conventions_in, roles_for, taken_by, taken_each}
use Rattle.sil_cfg_items.specs.declared.taken.Taken.{Taken}
use Rattle.sil_cfg_items.specs.declared.taken.Treatment.{Treatment}
use Rattle.ownership_kinds_chains.specs.OwnershipChains.Facts.{has}
use Rattle.ownership_kinds_chains.specs.declared.ownership_chains.facts.Facts.{Facts}
use Rattle.sil_types_declarations.specs.TypeDefinitions.Declarations.{Declarations}
use Rattle.holder_model_values.specs.RunValues.Memory.{Memory}
use Rattle.sil_verifier_runs.specs.sil_verifier_trails.AcceptedTrails.inner.Defined.{makes}
use Rattle.sil_verifier_runs.specs.sil_verifier_trails.RunTrails.inner.Since.{is_none_since}
use Rattle.sil_verifier_runs.specs.holder_model.Calling.{as_argument}
use Rattle.sil_verifier_runs.specs.holder_model.Data.{AddressOf, Datum, FunctionOf, ValueOf, as_place}
use Rattle.sil_verifier_runs.specs.holder_model.Frames.{Entry, datum_in, entry_at, results_put}
use Rattle.sil_verifier_runs.specs.holder_model.LoweredRun.LowFrames as low_frames
use Rattle.sil_verifier_runs.specs.holder_model.LoweredRun.LowFrames.{and_others, read_all}
use Rattle.sil_verifier_runs.specs.holder_model.LoweredRun.LowStepParts.{taken_value, values_taken}
use Rattle.sil_verifier_runs.specs.ownership_kinds_origins.Renamings.{renamings_of}
use Rattle.ownership_lowering_laws.specs.ownership_lowering_model.Names.{stands_for}
use Rattle.ownership_lowering_laws.specs.ownership_lowering_model.Numbers.{renumbered_inst, renumbered_operand}
use Rattle.ownership_lowering_runs.specs.StoredRuns.inner.Frames.{AreValuesFor, IsDatumFor, IsNoAddress, IsShownAs}
use Rattle.ownership_lowering_runs.specs.StoredRuns.inner.Lowering.{IsOwnName, IsTakenOld}
use Rattle.ownership_lowering_runs.specs.StoredRuns.inner.Names.{AreNamed, IsCurrent, IsOld, IsTakenCurrent, lowered_number}
use Rattle.ownership_lowering_runs.proofs.StoredRuns.ValuesFor.{Behind, IsGivenAlive, OneChanged, Shown, behind_put, one_put}

-- ---- under other numbers an instruction takes the same values

module _ (number : ValueId → ValueId) where
  each_renumbered : (os : List Operand) (ts : List Treatment)
      → map taken_value (taken_each (map (renumbered_operand number) os) ts) ≡ map number (map taken_value (taken_each os ts))
  each_renumbered [] ts = refl
  each_renumbered (o ∷ os) [] = refl
  each_renumbered (o ∷ os) (t ∷ ts) = ap (λ vs. number o.value ∷ vs) (each_renumbered os ts)

  as_many : (os : List Operand) → length (map (renumbered_operand number) os) ≡ length os
  as_many [] = refl
  as_many (o ∷ os) = ap suc (as_many os)

  pub taken_renumbered : (i : Inst) → map taken_value (taken_by (renumbered_inst number i)) ≡ map number (map taken_value (taken_by i))
  taken_renumbered i =
      ap (λ n. map taken_value (taken_each (map (renumbered_operand number) i.operands) (roles_for (roles_of i.op) (conventions_in i) n))) (as_many i.operands)
      ∙ each_renumbered i.operands (roles_for (roles_of i.op) (conventions_in i) (length i.operands))

-- what stands at a point takes its operands, and defines its results
pub takes_there : (f : Function) (p : PointId) (i : Inst) → inst_at f p ≡ Some i → values_taken f (item.Inst p) ≡ map taken_value (taken_by i)
takes_there f p i e = ap (λ o. map taken_value (taken_in o ++ [])) e ∙ ap (map taken_value) (append-nil (taken_by i))

pub defines_there : (f : Function) (p : PointId) (i : Inst) → inst_at f p ≡ Some i → item_defined f (item.Inst p) ≡ i.results
defines_there f p i e = ap (λ o. results_in o ++ []) e ∙ append-nil i.results

module _ (d : Declarations) (f : Function) (named : AreNamed d f) where
  abbrev number : ValueId → ValueId
  number v = lowered_number d f v

  abbrev pub Like : ValueId → Datum → Datum → Type 0
  Like v x y = IsDatumFor d f v x y

  pub like_itself : (v : ValueId) (x : Datum) → Like v x x
  like_itself v x = inl refl

  -- each datum that is taken, and what stands for it in the lowered run
  module _ (values : List (Option Datum)) where
    abbrev pub IsReadAs : ValueId → Datum → Datum → Type 0
    IsReadAs v x y = (low_frames.value_at values (number v) ≡ Some y) × Like v x y

    abbrev pub AreReadAs : List Taken → List Datum → List Datum → Type 0
    AreReadAs [] [] [] = Unit {0}
    AreReadAs [] [] (y ∷ ys) = ⊥
    AreReadAs [] (x ∷ xs) ys = ⊥
    AreReadAs (t ∷ ts) [] ys = ⊥
    AreReadAs (t ∷ ts) (x ∷ xs) [] = ⊥
    AreReadAs (t ∷ ts) (x ∷ xs) (y ∷ ys) = IsReadAs t.value x y × AreReadAs ts xs ys

    -- the data that an item takes are read under the lowered numbers
    pub record AreReadSo (ts : List Taken) (xs : List Datum) : Type 0 where
      pub ys : List Datum
      pub read : read_all values (map number (map taken_value ts)) ≡ Ok ys
      pub like : AreReadAs ts xs ys

    pub taken_read : (t : List Item) (m : Memory) (facts : ValueId → Option Facts) (entries : List Entry) (ts : List Taken) (xs : List Datum)
        → AreValuesFor d f t entries values → Each (IsTakenOld f) ts → Each (IsTakenCurrent f t) ts → AllZip (IsGivenAlive facts m entries) ts xs
        → AreReadSo ts xs
    taken_read t m facts entries [] [] shown old current given = record { ys = []; read = refl; like = tt }
    taken_read t m facts entries [] (x ∷ xs) shown old current given = absurd given
    taken_read t m facts entries (y ∷ ts) [] shown old current given = absurd given
    taken_read t m facts entries (y ∷ ts) (x ∷ xs) shown old current given =
        let first = shown y.value x given.0.0 (old.0, current.0) in
        let rest = taken_read t m facts entries ts xs shown old.1 current.1 given.1 in
        record {
          ys = first.0 ∷ rest.ys;
          read = ap (λ o. and_others (low_frames.there (number y.value) o) (read_all values (map number (map taken_value ts)))) first.1
              ∙ ap (and_others (Ok first.0)) rest.read;
          like = ((first.1, first.2), rest.like);
        }

  same_argument : (x y : Datum) → IsNoAddress x → as_argument y ≡ x → y ≡ x
  same_argument x (ValueOf v) none e = e
  same_argument x (AddressOf p) none e = absurd (none-some _ (sym none ∙ ap as_place (sym e)))
  same_argument x (FunctionOf g) none e = e

  -- the same stands for what is no address
  pub like_exact : (v : ValueId) (x y : Datum) → IsNoAddress x → Like v x y → y ≡ x
  like_exact v x y none (inl same) = same
  like_exact v x y none (inr (made, e)) = same_argument x y none e

  pub taken_exact : (values : List (Option Datum)) (ts : List Taken) (xs ys : List Datum) → AreReadAs values ts xs ys → Each IsNoAddress xs → ys ≡ xs
  taken_exact values [] [] [] like none = refl
  taken_exact values [] [] (y ∷ ys) like none = absurd like
  taken_exact values [] (x ∷ xs) ys like none = absurd like
  taken_exact values (t ∷ ts) [] ys like none = absurd like
  taken_exact values (t ∷ ts) (x ∷ xs) [] like none = absurd like
  taken_exact values (t ∷ ts) (x ∷ xs) (y ∷ ys) like none =
      ap (λ z. z ∷ ys) (like_exact t.value x y none.0 like.0.1) ∙ ap (λ zs. x ∷ zs) (taken_exact values ts xs ys like.1 none.1)

  same_id : (v w : ValueId) → v.0 ≡ w.0 → v ≡ w
  same_id v w e = ap (λ n. record { 0 = n }) e

  own_of : (rs : List ValueId) → Each (IsOwnName f) rs → (v : ValueId) → has rs v.0 ≡ true → stands_for (renamings_of f) v ≡ v
  own_of [] own v h = absurd (false≢true h)
  own_of (r ∷ rs) own v h =
      ⊎_elim (λ here. subst (λ w. stands_for (renamings_of f) w ≡ w) (same_id r v (eqb-true r.0 v.0 here)) own.0.1) (λ later. own_of rs own.1 v later)
      (or_cases (r.0 == v.0) (has rs v.0) h)

  has_here : (rs : List ValueId) (v r : ValueId) → v.0 ≡ r.0 → has (r ∷ rs) v.0 ≡ true
  has_here rs v r e = ap (λ b. b || has rs v.0) (eq-eqb r.0 v.0 (sym e))

  or_right : (a b : Bool) → b ≡ true → (a || b) ≡ true
  or_right true b e = refl
  or_right false b e = e

  -- behind an item whose results have names of their own, current values are shown
  pub behind_current : (t : List Item) (i : Item) (rs : List ValueId) → item_defined f i ≡ rs → Each (IsOwnName f) rs
      → (entries : List Entry) (values : List (Option Datum))
      → Shown number Like (Behind number Like rs (λ v. IsOld f v × IsCurrent f t v)) entries values → AreValuesFor d f (i ∷ t) entries values
  behind_current t i rs defined own entries values shown v x there ok =
      shown v x there (behind_put number Like rs (λ v. IsOld f v × IsCurrent f t v) v (apart_from rs own (λ r h. h))
      (⊎_elim (λ made. inr (among_results made)) (λ kept. inl (ok.0, (and_parts (not (makes f s i)) (is_none_since (makes f s) (makes f v) t) kept).1)) cases))
    where
      s : ValueId
      s = stands_for (renamings_of f) v

      cases : (makes f v i ≡ true) ⊎ ((not (makes f s i) && is_none_since (makes f s) (makes f v) t) ≡ true)
      cases = or_cases (makes f v i) (not (makes f s i) && is_none_since (makes f s) (makes f v) t) ok.1

      among_results : makes f v i ≡ true → has rs v.0 ≡ true
      among_results made = sym (ap (λ vs. has vs v.0) defined) ∙ made

      -- the value with this number among the results is what v stands for
      same_as : (r : ValueId) → IsOwnName f r → (number v).0 ≡ (number r).0 → s ≡ r
      same_as r is e = named.apart v r ok.0 is.0 (same_id (number v) (number r) e) ∙ is.1

      of_kept : (r : ValueId) → s ≡ r → has rs r.0 ≡ true → (makes f v i ≡ true) ⊎ ((not (makes f s i) && is_none_since (makes f s) (makes f v) t) ≡ true) → v.0 ≡ r.0
      of_kept r e among (inl made) = ap (λ (w : ValueId). w.0) (sym (own_of rs own v (among_results made)) ∙ e)
      of_kept r e among (inr kept) =
          let made : makes f s i ≡ true = ap (λ vs. has vs s.0) defined ∙ ap (λ (w : ValueId). has rs w.0) e ∙ among in
          absurd (false≢true (sym (ap not made) ∙ (and_parts (not (makes f s i)) (is_none_since (makes f s) (makes f v) t) kept).0))

      apart_from : (vs : List ValueId) → Each (IsOwnName f) vs → ((r : ValueId) → has vs r.0 ≡ true → has rs r.0 ≡ true)
          → Each (λ r. (number v).0 ≡ (number r).0 → v.0 ≡ r.0) vs
      apart_from [] own within = tt
      apart_from (r ∷ vs) own within = (
        λ e. of_kept r (same_as r own.0 e) (within r (has_here vs r r refl)) cases,
        apart_from vs own.1 (λ q h. within q (or_right (r.0 == q.0) (has vs q.0) h)),
      )

  -- behind an item that gives another name to what stands under it
  pub behind_renamed : (facts : ValueId → Option Facts) (t : List Item) (i : Item) (r : ValueId) (x : Datum) → item_defined f i ≡ r ∷ []
      → (left entries : List Entry) (values : List (Option Datum)) → results_put facts (r ∷ []) (x ∷ []) left ≡ Ok entries
      → low_frames.value_at values (number r) ≡ Some x → AreValuesFor d f t left values → AreValuesFor d f (i ∷ t) entries values
  behind_renamed facts t i r x defined left entries values put under shown v y there ok = at (cases_Bool (v.0 == r.0))
    where
      one : OneChanged facts left entries r x
      one = one_put facts left entries r x put

      at : ((v.0 == r.0) ≡ true) ⊎ ((v.0 == r.0) ≡ false) → IsShownAs d f v y (low_frames.value_at values (number v))
      at (inl same) =
          let is : v ≡ r = same_id v r (eqb-true v.0 r.0 same) in
          let worth : x ≡ y = same_Some x y (sym (one.here y (subst (λ u. datum_in (entry_at entries u) ≡ Some y) is there))) in
          (x, ap (λ u. low_frames.value_at values (number u)) is ∙ under, inl worth)
      at (inr other) =
          shown v y (ap datum_in (sym (one.others v other)) ∙ there) (
            ok.0,
            ⊎_elim
                (λ made. absurd (eqb-false v.0 r.0 other (sym (eqb-true r.0 v.0 (only_one (sym (ap (λ vs. has vs v.0) defined) ∙ made))))))
                (λ kept. (and_parts (not (makes f (stands_for (renamings_of f) v) i)) (is_none_since (makes f (stands_for (renamings_of f) v)) (makes f v) t) kept).1)
                (or_cases (makes f v i) (not (makes f (stands_for (renamings_of f) v) i) && is_none_since (makes f (stands_for (renamings_of f) v)) (makes f v) t) ok.1),
          )
        where
          only_one : has (r ∷ []) v.0 ≡ true → (r.0 == v.0) ≡ true
          only_one h = ⊎_elim (λ here. here) (λ later. absurd (false≢true later)) (or_cases (r.0 == v.0) false h)

  -- behind an item that defines nothing
  pub behind_nothing : (t : List Item) (i : Item) → item_defined f i ≡ [] → (entries : List Entry) (values : List (Option Datum))
      → AreValuesFor d f t entries values → AreValuesFor d f (i ∷ t) entries values
  behind_nothing t i defined entries values shown v y there ok =
      shown v y there (
        ok.0,
        ⊎_elim
            (λ made. absurd (false≢true (sym (ap (λ vs. has vs v.0) defined) ∙ made)))
            (λ kept. (and_parts (not (makes f (stands_for (renamings_of f) v) i)) (is_none_since (makes f (stands_for (renamings_of f) v)) (makes f v) t) kept).1)
            (or_cases (makes f v i) (not (makes f (stands_for (renamings_of f) v) i) && is_none_since (makes f (stands_for (renamings_of f) v)) (makes f v) t) ok.1),
      )
