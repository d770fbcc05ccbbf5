-- What both runs have where they stand at an instruction: its operands under their lowered numbers, and what its results are put under.
use Rattle.std.proofs.Common.{◌≡◌, inl, inr, List, [], ◌∷◌, map, refl, sym, ap, ◌∙◌, subst, true, false, Option, Some, None}
use Rattle.std.specs.Prelude.{find, is_some, slice_get}
use Rattle.std.specs.List.{AllZip}
use Rattle.std.proofs.lemmas.Bool.{true≢false}
use Rattle.std.proofs.lemmas.Option.{same_Some}
use Rattle.numbered_form.specs.Lists.{Each}
use Rattle.sil_ast.specs.declared.function.Function.{Function}
use Rattle.sil_ast.specs.declared.inst.Inst.{Inst}
use Rattle.sil_ast.specs.declared.module.Module.{Module}
use Rattle.sil_ast.specs.declared.operands.Operand.{Operand}
use Rattle.sil_ast.specs.declared.place.FuncId.{FuncId}
use Rattle.sil_ast.specs.declared.place.PointId.{PointId}
use Rattle.sil_ast.specs.declared.place.ValueId.{ValueId}
use Rattle.sil_cfg.specs.declared.item.Item.TheVariants as item
use Rattle.sil_cfg_items.specs.Items.{item_taken}
use Rattle.sil_cfg_items.specs.declared.taken.Taken.{Taken}
use Rattle.ownership_kinds_chains.specs.declared.ownership_chains.facts.Facts.{Facts}
use Rattle.sil_types_declarations.specs.TypeDefinitions.Declarations.{Declarations, declarations_of}
use Rattle.holder_model_values.specs.RunValues.Memory.{is_dead}
use Rattle.holder_model_values.specs.RunValues.Places.{Place, value_at}
use Rattle.holder_model_values.specs.RunValues.Values.{Value, references_of}
use Rattle.sil_verifier_runs.specs.sil_verifier_trails.AcceptedTrails.inner.Defined.{makes}
use Rattle.sil_verifier_runs.specs.holder_model.Data.{AddressOf, Datum, FunctionOf, ValueOf, as_place, home_references, references_in}
use Rattle.sil_verifier_runs.specs.holder_model.Frames.{Frame, Operands, any_dead}
use Rattle.sil_verifier_runs.specs.holder_model.HolderStates.{HolderState}
use Rattle.sil_verifier_runs.specs.holder_model.ModuleFacts.{facts_of, facts_told}
use Rattle.sil_verifier_runs.specs.holder_model.Standing.{stands_at}
use Rattle.sil_verifier_runs.specs.holder_model.States.{Task}
use Rattle.sil_verifier_runs.specs.holder_model.LoweredRun.LowFrames as low_frames
use Rattle.sil_verifier_runs.specs.holder_model.LoweredRun.LowStepParts.{LowState, taken_value}
use Rattle.ownership_lowering_runs.specs.StoredRuns.inner.Frames.{IsNoAddress, AreGivenPartsFull, IsDatumFor, IsFrameAt}
use Rattle.ownership_lowering_runs.specs.StoredRuns.inner.Lowering.{IsTakenOld}
use Rattle.ownership_lowering_runs.specs.StoredRuns.inner.Names.{IsOld, lowered_number}
use Rattle.ownership_lowering_runs.specs.StoredRuns.inner.PlaceRows.{StandsAt, operand_value}
use Rattle.ownership_lowering_runs.proofs.StoredRuns.Reading.{AreReadAs, AreReadSo, like_exact, taken_exact, taken_read}
use Rattle.ownership_lowering_runs.proofs.StoredRuns.SameRows.{none_dead}
use Rattle.ownership_lowering_runs.proofs.StoredRuns.ValuesFor.{AreTakenSo, IsGivenAlive, operands_given}

-- the place as a callee has it
abbrev pub whole : Place → Place
whole p = record p { is_part = false }

-- each of these values is read as a datum of the lowered run
module _ (IsRead : ValueId → Datum → Datum → Type 0) where
  abbrev pub AreRead : List ValueId → List Datum → List Datum → Type 0
  AreRead [] [] [] = Unit {0}
  AreRead [] [] (y ∷ ys) = ⊥
  AreRead [] (x ∷ xs) ys = ⊥
  AreRead (v ∷ vs) [] ys = ⊥
  AreRead (v ∷ vs) (x ∷ xs) [] = ⊥
  AreRead (v ∷ vs) (x ∷ xs) (y ∷ ys) = IsRead v x y × AreRead vs xs ys

module _ (m : Module) (s : HolderState) (l : LowState) (frame : Frame) (rest : List (Task Frame)) (f : Function) (i : Inst) (ops : Operands)
    (x : StandsAt m s l frame rest f i ops) where
  abbrev pub d : Declarations
  d = declarations_of m

  abbrev pub number : ValueId → ValueId
  number v = lowered_number d f v

  abbrev pub p : PointId
  p = stands_at f frame.trail

  abbrev pub facts : ValueId → Option Facts
  facts v = facts_told (facts_of m) frame.function v

  pub taken_so : AreTakenSo facts s.memory frame.entries (item_taken f (item.Inst p)) ops
  taken_so = operands_given facts s.memory frame.entries (item_taken f (item.Inst p)) ops x.found

  pub reads : AreReadSo d f x.lowers.named x.low.values (item_taken f (item.Inst p)) ops.given
  reads =
      taken_read d f x.lowers.named x.low.values frame.trail s.memory facts frame.entries (item_taken f (item.Inst p)) ops.given x.frames.values
      (x.lowers.taken (item.Inst p) x.is_item) (x.lowers.current frame.trail (item.Inst p) x.turned) taken_so.given

  -- the frame without the operands that ended
  abbrev pub left : Frame
  left = record frame { entries = ops.left }

  pub left_frames : IsFrameAt d f left x.low
  left_frames = record {
    function = x.frames.function;
    at = x.frames.at;
    slots = x.frames.slots;
    size = x.frames.size;
    values = λ v y h ok. x.frames.values v y (taken_so.stays v y h) ok;
  }

  pub given_parts : AreGivenPartsFull d f x.low.values l.memory
  given_parts = x.full.0 f (ap (λ (g : FuncId). slice_get m.functions g.0) x.frames.function ∙ x.there)

  -- ---- operands

  -- the datum of the lowered run under the value's number, and none of its objects is dead
  abbrev pub IsUnder : ValueId → Datum → Datum → Type 0
  IsUnder v y z = (low_frames.value_at x.low.values (number v) ≡ Some z) × IsDatumFor d f v y z × (any_dead s.memory (references_in y) ≡ false)

  by_values : (ts : List Taken) (ys zs : List Datum) → AreReadAs d f x.lowers.named x.low.values ts ys zs → AllZip (IsGivenAlive facts s.memory frame.entries) ts ys
      → AreRead IsUnder (map taken_value ts) ys zs
  by_values [] [] [] h k = tt
  by_values [] [] (z ∷ zs) h k = absurd h
  by_values [] (y ∷ ys) zs h k = absurd h
  by_values (t ∷ ts) [] zs h k = absurd h
  by_values (t ∷ ts) (y ∷ ys) [] h k = absurd h
  by_values (t ∷ ts) (y ∷ ys) (z ∷ zs) h k = ((h.0.0, h.0.1, k.0.1), by_values ts ys zs h.1 k.1)

  pub operands_under : AreRead IsUnder (map operand_value i.operands) ops.given reads.ys
  operands_under = subst (λ vs. AreRead IsUnder vs ops.given reads.ys) x.takes (by_values (item_taken f (item.Inst p)) ops.given reads.ys reads.like taken_so.given)

  values_old : (ts : List Taken) → Each (IsTakenOld f) ts → Each (IsOld f) (map taken_value ts)
  values_old [] h = tt
  values_old (t ∷ ts) h = (h.0, values_old ts h.1)

  pub operands_old : Each (IsOld f) (map operand_value i.operands)
  operands_old = subst (Each (IsOld f)) x.takes (values_old (item_taken f (item.Inst p)) (x.lowers.taken (item.Inst p) x.is_item))

  -- the place under the number of an address
  pub record PlaceUnder (v : ValueId) (y : Place) : Type 0 where
    pub place : Place
    pub under : low_frames.value_at x.low.values (number v) ≡ Some (AddressOf place)
    pub same : whole place ≡ whole y
    pub alive : find (is_dead l.memory) (home_references place.home) ≡ None
    -- a part that the function was given as a whole is full
    pub part_full : place.is_part ≡ true → y.is_part ≡ false → is_some (value_at l.memory place) ≡ true
    -- the place of an address that isn't given is the same
    pub exact : (makes f v item.Entry ≡ false) → place ≡ y

  place_under : (v : ValueId) (y : Place) (z : Datum) → IsUnder v (AddressOf y) z → PlaceUnder v y
  place_under v y z (at, inl same, alive) = record {
    place = y;
    under = at ∙ ap Some same;
    same = refl;
    alive = none_dead s.memory l.memory x.memory (home_references y.home) alive;
    part_full = λ part whole_one. absurd (cc);
    exact = λ h. refl;
  }
  place_under v y (ValueOf u) (at, inr (made, e), alive) = absurd (cc)
  place_under v y (FunctionOf g) (at, inr (made, e), alive) = absurd (cc)
  place_under v y (AddressOf q) (at, inr (made, e), alive) =
      let is : whole q ≡ y = same_Some (whole q) y (ap as_place e) in
      record {
        place = q;
        under = at;
        same = ap whole is;
        alive = none_dead s.memory l.memory x.memory (home_references q.home) (subst (λ (w : Place). any_dead s.memory (home_references w.home) ≡ false) (sym is) alive);
        part_full = λ part whole_one. given_parts v q made at part;
        exact = λ h. absurd (true≢false (sym made.made ∙ h));
      }

  -- a value under its number
  pub record ValueUnder (v : ValueId) (u : Value) : Type 0 where
    pub under : low_frames.value_at x.low.values (number v) ≡ Some (ValueOf u)
    pub alive : find (is_dead l.memory) (references_of u) ≡ None

  value_under : (v : ValueId) (u : Value) (z : Datum) → IsUnder v (ValueOf u) z → ValueUnder v u
  value_under v u z (at, like, alive) = record {
    under = at ∙ ap Some (like_exact d f x.lowers.named v (ValueOf u) z refl like);
    alive = none_dead s.memory l.memory x.memory (references_of u) alive;
  }

  one_read : (P : ValueId → Datum → Datum → Type 0) (v : ValueId) (y : Datum) (zs : List Datum) → AreRead P (v ∷ []) (y ∷ []) zs → (z : Datum) × P v y z
  one_read P v y [] h = absurd h
  one_read P v y (z ∷ []) h = (z, h.0)
  one_read P v y (z ∷ w ∷ zs) h = absurd h.1

  -- an instruction with one operand
  pub one_place : (o : Operand) (y : Place) → i.operands ≡ o ∷ [] → ops.given ≡ AddressOf y ∷ [] → PlaceUnder o.value y
  one_place o y one given =
      let h : AreRead IsUnder (o.value ∷ []) (AddressOf y ∷ []) reads.ys =
      subst (λ xs. AreRead IsUnder (o.value ∷ []) xs reads.ys) given (subst (λ os. AreRead IsUnder (map operand_value os) ops.given reads.ys) one operands_under) in
      let r = one_read IsUnder o.value (AddressOf y) reads.ys h in
      place_under o.value y r.0 r.1

  pub one_value : (o : Operand) (u : Value) → i.operands ≡ o ∷ [] → ops.given ≡ ValueOf u ∷ [] → ValueUnder o.value u
  one_value o u one given =
      let h : AreRead IsUnder (o.value ∷ []) (ValueOf u ∷ []) reads.ys =
      subst (λ xs. AreRead IsUnder (o.value ∷ []) xs reads.ys) given (subst (λ os. AreRead IsUnder (map operand_value os) ops.given reads.ys) one operands_under) in
      let r = one_read IsUnder o.value (ValueOf u) reads.ys h in
      value_under o.value u r.0 r.1

  both_read : (P : ValueId → Datum → Datum → Type 0) (v w : ValueId) (y z : Datum) (zs : List Datum) → AreRead P (v ∷ w ∷ []) (y ∷ z ∷ []) zs
      → ((a : Datum) × P v y a) × ((b : Datum) × P w z b)
  both_read P v w y z [] h = absurd h
  both_read P v w y z (a ∷ zs) h = ((a, h.0), one_read P w z zs h.1)

  -- a value, and the address of a place
  pub value_and_place_under : (a b : Operand) (u : Value) (y : Place) → i.operands ≡ a ∷ b ∷ [] → ops.given ≡ ValueOf u ∷ AddressOf y ∷ []
      → ValueUnder a.value u × PlaceUnder b.value y
  value_and_place_under a b u y both given =
      let h : AreRead IsUnder (a.value ∷ b.value ∷ []) (ValueOf u ∷ AddressOf y ∷ []) reads.ys =
      subst (λ xs. AreRead IsUnder (a.value ∷ b.value ∷ []) xs reads.ys) given (subst (λ os. AreRead IsUnder (map operand_value os) ops.given reads.ys) both operands_under) in
      let r = both_read IsUnder a.value b.value (ValueOf u) (AddressOf y) reads.ys h in
      (value_under a.value u r.0.0 r.0.1, place_under b.value y r.1.0 r.1.1)

  -- what is read for it

  same_data : (v : ValueId) (y z : Datum) → low_frames.value_at x.low.values (number v) ≡ Some z → low_frames.value_at x.low.values (number v) ≡ Some y → z ≡ y
  same_data v y z e h = same_Some z y (sym e ∙ h)

  all_read : (v : ValueId) (y : Datum) (zs : List Datum) (z : Datum) → AreRead IsUnder (v ∷ []) (y ∷ []) zs → low_frames.value_at x.low.values (number v) ≡ Some z → zs ≡ z ∷ []
  all_read v y [] z h e = absurd h
  all_read v y (a ∷ []) z h e = ap (λ b. b ∷ []) (same_data v z a h.0.0 e)
  all_read v y (a ∷ b ∷ zs) z h e = absurd h.1

  pub place_read_low : (o : Operand) (y : Place) (one : i.operands ≡ o ∷ []) (given : ops.given ≡ AddressOf y ∷ []) → reads.ys ≡ AddressOf (one_place o y one given).place ∷ []
  place_read_low o y one given =
      all_read o.value (AddressOf y) reads.ys (AddressOf (one_place o y one given).place)
      (subst (λ xs. AreRead IsUnder (o.value ∷ []) xs reads.ys) given (subst (λ os. AreRead IsUnder (map operand_value os) ops.given reads.ys) one operands_under))
      (one_place o y one given).under

  both_all_read : (v w : ValueId) (y u : Datum) (zs : List Datum) (z b : Datum) → AreRead IsUnder (v ∷ w ∷ []) (y ∷ u ∷ []) zs
      → low_frames.value_at x.low.values (number v) ≡ Some z → low_frames.value_at x.low.values (number w) ≡ Some b → zs ≡ z ∷ b ∷ []
  both_all_read v w y u [] z b h e g = absurd h
  both_all_read v w y u (a ∷ zs) z b h e g = ap (λ c. c ∷ zs) (same_data v z a h.0.0 e) ∙ ap (λ cs. z ∷ cs) (all_read w u zs b h.1 g)

  pub both_read_low : (a b : Operand) (u : Value) (y : Place) (both : i.operands ≡ a ∷ b ∷ []) (given : ops.given ≡ ValueOf u ∷ AddressOf y ∷ [])
      → reads.ys ≡ ValueOf u ∷ AddressOf (value_and_place_under a b u y both given).1.place ∷ []
  both_read_low a b u y both given =
      both_all_read a.value b.value (ValueOf u) (AddressOf y) reads.ys (ValueOf u) (AddressOf (value_and_place_under a b u y both given).1.place)
      (subst (λ xs. AreRead IsUnder (a.value ∷ b.value ∷ []) xs reads.ys) given (subst (λ os. AreRead IsUnder (map operand_value os) ops.given reads.ys) both operands_under))
      (value_and_place_under a b u y both given).0.under (value_and_place_under a b u y both given).1.under

  -- the same is read where no address is
  pub exact_read : Each IsNoAddress ops.given → reads.ys ≡ ops.given
  exact_read none = taken_exact d f x.lowers.named x.low.values (item_taken f (item.Inst p)) ops.given reads.ys reads.like none
