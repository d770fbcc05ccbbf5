-- What a row changes that does nothing at places: no cell of the stack, and no slot. Nor does it meet a fault.
use Rattle.std.proofs.Common.{◌≡◌, ℕ, List, [], ◌∷◌, Bool, true, false, cond, Option, Some, None, refl}
use Rattle.std.specs.Prelude.{map, option_and_then, unwrap_or}
use Rattle.std.proofs.lemmas.Bool.{false≢true, true≢false}
use Rattle.holder_model_laws.specs.holder_model.Builtins.{builtin_value, is_set}
use Rattle.holder_model_laws.specs.holder_model.Data.{AddressOf, Datum, FunctionOf, ValueOf, all_of, as_function, as_place, as_value, values_of}
use Rattle.holder_model_laws.specs.holder_model.Effects as effects
use Rattle.holder_model_laws.specs.holder_model.Effects.{Calls, Change, Effect, Faults, Makes, SameSlots, Traps}
use Rattle.holder_model_laws.specs.holder_model.Effects.{Unfit, effect_by, effect_of, gives, gives_value, only, with_some}
use Rattle.holder_model_laws.specs.holder_model.Faults.{HolderFault}
use Rattle.holder_model_laws.specs.holder_model.ModuleShapes.{ModuleShapes, case_place}
use Rattle.holder_model_laws.specs.holder_model.declared.trap.Trap.TheVariants as trap
use Rattle.holder_model_laws.specs.holder_model.declared.row_effect.RowEffect.{RowEffect}
use Rattle.holder_model_laws.specs.holder_model.declared.row_effect.RowEffect.TheVariants as row
use Rattle.holder_model_laws.specs.memory_rules_accesses.Operations.{access_kind_of}
use Rattle.holder_model_laws.specs.memory_rules_accesses.Sources.{borrow_source, field_source, loan_source, member_place, object_source, slot_source, source_by, upcast_source}
use Rattle.holder_model_laws.specs.memory_rules_accesses.declared.columns.AccessKind.{AccessKind}
use Rattle.holder_model_laws.specs.memory_rules_accesses.declared.columns.AccessKind.TheVariants as access
use Rattle.holder_model_laws.specs.memory_rules_accesses.declared.source.Source.{Source}
use Rattle.holder_model_laws.specs.memory_rules_accesses.declared.source.Source.TheVariants as source
use Rattle.sil_verifier_trails.specs.AcceptedPlaces.inner.Stacks.{keeps_slots_by}
use Rattle.instruction_table.specs.declared.op.Op.{Op}
use Rattle.instruction_table.specs.declared.op.Op.TheVariants as op
use Rattle.holder_model_values.specs.RunValues.Memory.{Memory}
use Rattle.holder_model_values.specs.RunValues.Places as places
use Rattle.holder_model_values.specs.RunValues.Shapes.{Shape, class_in}
use Rattle.holder_model_values.specs.RunValues.Values as value
use Rattle.holder_model_values.specs.RunValues.Values.{Value, grouped, integer_of, members_of, object_of}
use Rattle.sil_ast.specs.declared.inst.Inst.{Inst}
use Rattle.sil_ast.specs.declared.member.Member.{Member}
use Rattle.sil_ast.specs.declared.place.ObjectId.{ObjectId}
use Rattle.sil_ast.specs.declared.place.ValueId.{ValueId}
use Rattle.sil_ast.specs.declared.type_name.TypeName.{TypeName}
use Rattle.sil_types_declarations.specs.TypeDefinitions.Declarations.{Declarations}

-- if the effect is a change, then such a one, and so it is where it is a fault
abbrev pub MakesSo : Type 0 → (Change → Type 0) → Effect HolderFault → Type 0
MakesSo Wrong P (Makes c) = P c
MakesSo Wrong P (Calls g args) = Unit {0}
MakesSo Wrong P (Traps t) = Unit {0}
MakesSo Wrong P (Faults x) = Wrong
MakesSo Wrong P Unfit = Unit {0}

module _ (W : Type 0) (P : Change → Type 0) where
  pub makes_some : {A : Type 0} (go : A → Effect HolderFault) (o : Option A) → ((x : A) → MakesSo W P (go x)) → MakesSo W P (with_some go o)
  makes_some go None h = tt
  makes_some go (Some x) h = h x

  pub makes_either : (b : Bool) (e g : Effect HolderFault) → MakesSo W P e → MakesSo W P g → MakesSo W P (cond b e g)
  makes_either true e g h k = h
  makes_either false e g h k = k

-- the row does nothing at places, and neither allocates nor deallocates a slot
abbrev pub is_still : RowEffect → Bool
is_still row.MakesSlot = false
is_still row.RemovesSlot = false
is_still row.LoadsValue = false
is_still row.LoadsName = false
is_still row.StoresValue = false
is_still row.DestroysPlace = false
is_still _ = true

abbrev pub StaysStill : Memory → Change → Type 0
StaysStill m c = (c.slots ≡ SameSlots) × (c.memory.stack ≡ m.stack)

module _ (d : Declarations) (shapes : ModuleShapes) (values : List Shape) (m : Memory) (i : Inst) (at : RowEffect → List Datum → Effect HolderFault) where
  abbrev Still : Effect HolderFault → Type 0
  Still e = MakesSo ⊥ (StaysStill m) e

  chosen : (k : ℕ) (xs : List Value) → Still (effects.chooses d shapes values m i k xs)
  chosen k [] = (refl, refl)
  chosen k (x ∷ []) = (refl, refl)
  chosen k (x ∷ y ∷ xs) = tt

  called : (xs : List Datum) → Still (effects.calls d shapes values m i xs)
  called [] = tt
  called (f ∷ args) = makes_some ⊥ (StaysStill m) (λ g. Calls g args) (as_function f) (λ g. tt)

  named : (o : Option Member) (k : Option ℕ) (x : ObjectId) → Still (effects.names_field_of d shapes values m i o k x)
  named None k x = tt
  named (Some owner) k x = makes_some ⊥ (StaysStill m) (λ q. gives m (AddressOf q ∷ [])) (option_and_then (effects.field_of_object d shapes values m i owner x) k) (λ q. (refl, refl))

  one_value : (o : Option Value) → Still (with_some (gives_value m) o)
  one_value o = makes_some ⊥ (StaysStill m) (gives_value m) o (λ n. (refl, refl))

  pub still_change : (r : RowEffect) → is_still r ≡ true → (xs : List Datum) → Still (effect_by d shapes values m i at r xs)
  still_change row.NoEffect e xs = (refl, refl)
  still_change row.GivesLiteral e xs = makes_some ⊥ (StaysStill m) (λ n. gives_value m (value.Int n)) i.number (λ n. (refl, refl))
  still_change row.GivesFunction e xs = makes_some ⊥ (StaysStill m) (λ g. gives m (FunctionOf g ∷ [])) i.function (λ n. (refl, refl))
  still_change row.Computes e xs = one_value (option_and_then (builtin_value i.text) (option_and_then (all_of integer_of) (values_of xs)))
  still_change row.TrapsWhereSet e xs = makes_some ⊥ (StaysStill m) (λ x. with_some (effects.traps_where d shapes values m i) (integer_of x)) (option_and_then as_value (only xs))
      (λ x. makes_some ⊥ (StaysStill m) (effects.traps_where d shapes values m i) (integer_of x)
      (λ n. makes_either ⊥ (StaysStill m) (is_set n) (Traps (trap.CondFail (unwrap_or i.text []))) (gives m []) tt (refl, refl)))
  still_change row.MakesObject e xs = makes_some ⊥ (StaysStill m) (effects.makes_object d shapes values m i) (class_in (effects.result_shape d shapes values m i)) (λ n. (refl, refl))
  still_change row.MakesSlot e xs = absurd (false≢true e)
  still_change row.RemovesSlot e xs = absurd (false≢true e)
  still_change row.GivesOperand e xs = makes_some ⊥ (StaysStill m) (λ x. gives m (x ∷ [])) (only xs) (λ n. (refl, refl))
  still_change row.CopiesOperand e xs = makes_some ⊥ (StaysStill m) (effects.copies d shapes values m i) (only xs) (λ n. (refl, refl))
  still_change row.RetainsOperand e xs = makes_some ⊥ (StaysStill m) (effects.retains d shapes values m i) (only xs) (λ n. (refl, refl))
  still_change row.DropsOperand e xs = makes_some ⊥ (StaysStill m) (effects.drops d shapes values m i) (only xs) (λ n. (refl, refl))
  still_change row.LoadsValue e xs = absurd (false≢true e)
  still_change row.StoresValue e xs = absurd (false≢true e)
  still_change row.DestroysPlace e xs = absurd (false≢true e)
  still_change row.LoadsName e xs = absurd (false≢true e)
  still_change row.Groups e xs = makes_some ⊥ (StaysStill m) (λ vs. gives_value m (grouped vs)) (values_of xs) (λ n. (refl, refl))
  still_change row.ChoosesCase e xs = makes_some ⊥ (StaysStill m) (λ j. with_some (effects.chooses d shapes values m i j) (values_of xs))
      (case_place (effects.result_shape d shapes values m i) i.member)
      (λ j. makes_some ⊥ (StaysStill m) (effects.chooses d shapes values m i j) (values_of xs) (λ vs. chosen j vs))
  still_change row.GivesMember e xs = makes_some ⊥ (StaysStill m) (effects.gives_member d shapes values m i (effects.part_number d i)) (option_and_then as_value (only xs))
      (λ x. one_value (option_and_then (λ k. effects.member_of d shapes values m i k x) (effects.part_number d i)))
  still_change row.GivesMembers e xs = makes_some ⊥ (StaysStill m) (effects.gives_members d shapes values m i) (option_and_then as_value (only xs))
      (λ x. makes_some ⊥ (StaysStill m) (λ members. gives m (map ValueOf members)) (members_of x) (λ n. (refl, refl)))
  still_change row.AddressesMember e xs = makes_some ⊥ (StaysStill m) (effects.names_member d shapes values m i (effects.part_number d i)) (option_and_then as_place (only xs))
      (λ p. makes_some ⊥ (StaysStill m) (λ q. gives m (AddressOf q ∷ [])) (option_and_then (places.member_place p) (effects.part_number d i)) (λ n. (refl, refl)))
  still_change row.AddressesField e xs = makes_some ⊥ (StaysStill m) (effects.names_field d shapes values m i) (option_and_then as_value (only xs))
      (λ x. makes_some ⊥ (StaysStill m) (effects.names_field_of d shapes values m i i.member (effects.part_number d i)) (object_of x)
      (λ o. named i.member (effects.part_number d i) o))
  still_change row.CallsFunction e xs = called xs

-- ---- what the row's access is

pub still_slots : (o : Op) → is_still (effect_of o) ≡ true → keeps_slots_by (access_kind_of o) ≡ true
still_slots op.AllocStack e = absurd (false≢true e)
still_slots op.DeallocStack e = absurd (false≢true e)
still_slots o e = refl

abbrev pub is_member_kind : AccessKind → Bool
is_member_kind access.NamesMember = true
is_member_kind access.NamesElement = true
is_member_kind _ = false

-- the result of any other row isn't a member of an address
abbrev pub IsPart : Source → Type 0
IsPart s = (of : ValueId) × (k : ℕ) × (s ≡ source.Part of k)

pub no_part : (k : AccessKind) (d : Declarations) (i : Inst) → is_member_kind k ≡ false → IsPart (source_by k d i) → ⊥
no_part access.NoAccess d i e part = let same = part.2 in absurd (cc)
no_part access.AllocatesSlot d i e part = at i.ty part
  where
    at : (t : Option TypeName) → IsPart (slot_source d t) → ⊥
    at None part = let same = part.2 in absurd (cc)
    at (Some t) part = let same = part.2 in absurd (cc)
no_part access.AllocatesObject d i e part = at i.ty part
  where
    at : (t : Option TypeName) → IsPart (object_source d t) → ⊥
    at None part = let same = part.2 in absurd (cc)
    at (Some t) part = let same = part.2 in absurd (cc)
no_part access.DeallocatesSlot d i e part = let same = part.2 in absurd (cc)
no_part access.LendsValue d i e part = at _ part
  where
    at : (v : Option ValueId) → IsPart (borrow_source v) → ⊥
    at None part = let same = part.2 in absurd (cc)
    at (Some v) part = let same = part.2 in absurd (cc)
no_part access.Upcasts d i e part = at _ part
  where
    at : (v : Option ValueId) → IsPart (upcast_source v) → ⊥
    at None part = let same = part.2 in absurd (cc)
    at (Some v) part = let same = part.2 in absurd (cc)
no_part access.LendsLocation d i e part = at _ part
  where
    at : (v : Option ValueId) → IsPart (loan_source v) → ⊥
    at None part = let same = part.2 in absurd (cc)
    at (Some v) part = let same = part.2 in absurd (cc)
no_part access.NamesField d i e part = at _ (member_place d i.member) _ part
  where
    at : (v : Option ValueId) (k : Option ℕ) (t : Bool) → IsPart (field_source v k t) → ⊥
    at None k t part = let same = part.2 in absurd (cc)
    at (Some v) None t part = let same = part.2 in absurd (cc)
    at (Some v) (Some k) t part = let same = part.2 in absurd (cc)
no_part access.NamesMember d i e part = absurd (true≢false e)
no_part access.NamesElement d i e part = absurd (true≢false e)
no_part access.Loads d i e part = let same = part.2 in absurd (cc)
no_part access.Stores d i e part = let same = part.2 in absurd (cc)
no_part access.Destroys d i e part = let same = part.2 in absurd (cc)
no_part access.Passes d i e part = let same = part.2 in absurd (cc)
