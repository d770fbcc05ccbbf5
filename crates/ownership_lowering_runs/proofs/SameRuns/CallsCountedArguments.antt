-- What the operands of a call hold that end is what the callee's arguments hold, and nothing where it has no body: its arguments are integers.
use Rattle.std.proofs.Common.{◌≡◌, ℕ, ℤ, ◌+◌, List, [], ◌∷◌, ◌++◌, append-nil, length, map, arith, refl, sym, ap, ap₂, ◌∙◌, subst, Bool, true, false, cond, inl, Option, Some, None, Ok}
use Rattle.std.specs.Prelude.{option_and_then, slice_get}
use Rattle.std.specs.List.{AllZip}
use Rattle.std.proofs.lemmas.Option.{none-some, same_Some}
use Rattle.argument_conventions.specs.Arguments.{Told, arguments_of, conventions_of}
use Rattle.instruction_table.specs.Forms.{roles_of}
use Rattle.instruction_table.specs.declared.entries.Role.TheVariants as role
use Rattle.instruction_table.specs.declared.op.Op.TheVariants as op
use Rattle.numbered_form.specs.Lists.{Each}
use Rattle.numbered_form.specs.PointChecks.Points.{IsAt}
use Rattle.sil_ast.specs.Blocks.{args_of}
use Rattle.sil_ast.specs.declared.function.Function.{Function}
use Rattle.sil_ast.specs.declared.inst.Inst.{Inst}
use Rattle.sil_ast.specs.declared.module.Module.{Module}
use Rattle.sil_ast.specs.declared.operands.Operand.{Operand}
use Rattle.sil_ast.specs.declared.place.FuncId.{FuncId}
use Rattle.sil_ast.specs.declared.place.ObjectId.{ObjectId}
use Rattle.sil_ast.specs.declared.place.PointId.{PointId}
use Rattle.sil_ast.specs.declared.place.ValueId.{ValueId}
use Rattle.sil_ast.specs.declared.type_name.TypeName.{TypeName}
use Rattle.sil_cfg.specs.declared.item.Item.TheVariants as item
use Rattle.sil_cfg_items.specs.Items.{item_defined, item_taken, taken_in}
use Rattle.sil_cfg_items.specs.Parts.{inst_at}
use Rattle.sil_cfg_items.specs.Roles.{by_convention, by_row, conventions_by, conventions_in, roles_for, taken_as, taken_by, taken_each}
use Rattle.sil_cfg_items.specs.declared.taken.Taken.{Taken}
use Rattle.ownership_kinds_chains.specs.declared.ownership_chains.facts.Facts.{Facts}
use Rattle.sil_types_declarations.specs.TypeDefinitions.Declarations.{Declarations, declarations_of}
use Rattle.sil_types_declarations.specs.declared.type_definitions.kind.Kind.{Kind}
use Rattle.sil_types_declarations.specs.declared.type_definitions.kind.Kind.TheVariants as kind
use Rattle.holder_model_values.specs.RunValues.Memory.{Memory}
use Rattle.holder_model_values.specs.RunValues.Values as value
use Rattle.holder_model_values.specs.RunValues.Values.{Value, integer_of, references_of}
use Rattle.sil_verifier_runs.specs.ownership_kinds_origins.Facts.{facts_in}
use Rattle.sil_types.specs.Typing.Shapes.{target}
use Rattle.sil_types.specs.Typing.Values.{function_at, value_functions}
use Rattle.sil_verifier_runs.specs.sil_verifier_values.inner.Handed.{IsHanded, IsToldOf}
use Rattle.sil_verifier_runs.specs.sil_verifier_values.inner.Known.{IsAcceptedBody, type_in}
use Rattle.ownership_lowering_laws.specs.holder_model_typing.OwnedRunTyping.inner.OwnedTyped.{OwnedFunction}
use Rattle.sil_verifier_runs.specs.holder_model.RunTyping.EndForms.{value_in}
use Rattle.sil_verifier_runs.specs.holder_model.RunTyping.Forms.{Form, OfFunction, form_by, form_with}
use Rattle.sil_verifier_runs.proofs.sil_verifier_values.Accepted.{well_typed}
use Rattle.sil_verifier_runs.proofs.sil_verifier_values.Calls.{calls_handed}
use Rattle.sil_verifier_runs.proofs.sil_verifier_values.Parameters.{entry_told}
use Rattle.sil_verifier_runs.proofs.sil_verifier_values.TableRows.{argument_rows}
use Rattle.ownership_lowering_laws.proofs.holder_model_typing.RunTypingLaws.CallFacts.{Called, called}
use Rattle.ownership_lowering_laws.proofs.holder_model_typing.RunTypingLaws.Declared.{each_from}
use Rattle.ownership_lowering_laws.proofs.holder_model_typing.RunTypingLaws.Rows.Points.{is_at}
use Rattle.sil_verifier_runs.specs.holder_model.Calling.{as_argument}
use Rattle.sil_verifier_runs.specs.holder_model.Data.{AddressOf, Datum, FunctionOf, ValueOf, all_of, as_function, as_value, references_in, values_of, with_first}
use Rattle.sil_verifier_runs.specs.holder_model.Frames.{Entry, Operands, operands_of}
use Rattle.sil_verifier_runs.specs.holder_model.Holders.{of_references}
use Rattle.sil_verifier_runs.specs.holder_model_laws.HolderLaws.inner.Counts.Taking.{owned_references, references_begun, references_ended, references_ended_by}
use Rattle.sil_verifier_runs.proofs.holder_model_laws.HolderLaws.Counts.Sums.{total_append}
use Rattle.ownership_lowering_runs.proofs.OwnedCounts.GivenOwned.{given_as}
use Rattle.ownership_lowering_runs.proofs.OwnedCounts.HandedOver.{HasItsType}
use Rattle.ownership_lowering_runs.proofs.OwnedCounts.Handing.{arguments_handed}
use Rattle.ownership_lowering_runs.proofs.OwnedCounts.Taken.{IsTakenAs, kind_in}
use Rattle.ownership_lowering_runs.proofs.OwnedCounts.TakenOwned.{ends_kind, keeps_one, taken_total}
use Rattle.sil_verifier_runs.specs.sil_verifier_frames.inner.Typed.TypedStates.{EntriesAre}
use Rattle.ownership_lowering_laws.specs.holder_model_typing.TypedMemory.inner.Worlds.{DatumIs, World}
use Rattle.sil_verifier_runs.proofs.sil_verifier_frames.Typed.Entries.{FitEach, operands_fit}
use Rattle.sil_verifier_runs.proofs.sil_verifier_frames.Typed.GoesOn.{typed_module}

-- ---- operands that name nothing

abbrev pub NamesNothing : Datum → Type 0
NamesNothing x = references_in x ≡ []

module _ (facts : ValueId → Option Facts) (entries : List Entry) (weight : ObjectId → ℕ) where
  none_by : (b : Bool) (k : Kind) (x : Datum) → NamesNothing x → cond b (of_references weight (owned_references k x)) 0 ≡ 0
  none_by true kind.Owned x bare = ap (of_references weight) bare
  none_by true kind.Guaranteed x bare = refl
  none_by true kind.Plain x bare = refl
  none_by false k x bare = refl

  pub bare_ended : (ts : List Taken) (xs : List Datum) → AllZip (IsTakenAs facts entries) ts xs → Each NamesNothing xs
      → of_references weight (references_ended facts entries ts) ≡ 0
  bare_ended [] xs given bare = refl
  bare_ended (t ∷ ts) [] given bare = absurd given
  bare_ended (t ∷ ts) (x ∷ xs) given bare =
      let both : of_references weight (references_ended facts entries (t ∷ ts))
      ≡ of_references weight (references_ended_by facts entries t) + of_references weight (references_ended facts entries ts) =
      total_append weight (references_ended_by facts entries t) (references_ended facts entries ts) in
      let first = taken_total facts entries weight t x given.0
      ∙ none_by (ends_kind (kind_in facts entries t.value) t.role) (kind_in facts entries t.value) x bare.0 in
      let rest = bare_ended ts xs given.1 bare.1 in
      omega (arith, both, first, rest)

-- integers name nothing

all_parts : {A : Type 0} (o : Option A) (r : Option (List A)) (ys : List A) → with_first o r ≡ Some ys
    → (y : A) × (rest : List A) × (o ≡ Some y) × (r ≡ Some rest) × (ys ≡ y ∷ rest)
all_parts None r ys e = absurd (none-some ys e)
all_parts (Some y) None ys e = absurd (none-some ys e)
all_parts (Some y) (Some rest) ys e = (y, rest, refl, refl, sym (same_Some (y ∷ rest) ys e))

integer_bare : (x : Datum) (v : Value) (n : ℤ) → as_value x ≡ Some v → integer_of v ≡ Some n → NamesNothing x
integer_bare (AddressOf p) v n e h = absurd (none-some v e)
integer_bare (FunctionOf g) v n e h = refl
integer_bare (ValueOf u) v n e h = by u (ap integer_of (same_Some u v e) ∙ h)
  where
    by : (u : Value) → integer_of u ≡ Some n → references_of u ≡ []
    by (value.Int k) h = refl
    by (value.Object o) h = absurd (none-some n h)
    by (value.Group members) h = absurd (none-some n h)
    by (value.Case k) h = refl
    by (value.Full k payload) h = absurd (none-some n h)

all_bare : (xs : List Datum) (vs : List Value) (ns : List ℤ) → values_of xs ≡ Some vs → all_of integer_of vs ≡ Some ns → Each NamesNothing xs
all_bare [] vs ns e h = tt
all_bare (x ∷ xs) vs ns e h =
    let read = all_parts (as_value x) (values_of xs) vs e in
    let numbers = all_parts (integer_of read.0) (all_of integer_of read.1) ns (ap (all_of integer_of) (sym read.4) ∙ h) in
    (integer_bare x read.0 numbers.0 read.2 numbers.2, all_bare xs read.1 numbers.1 read.3 numbers.3)

pub numbers_bare : (xs : List Datum) (ns : List ℤ) → option_and_then (all_of integer_of) (values_of xs) ≡ Some ns → Each NamesNothing xs
numbers_bare xs ns e = by (values_of xs) refl e
  where
    by : (o : Option (List Value)) → values_of xs ≡ o → option_and_then (all_of integer_of) o ≡ Some ns → Each NamesNothing xs
    by None is h = absurd (none-some ns h)
    by (Some vs) is h = all_bare xs vs ns is h

-- ---- the callee

pub named_function : (x : Datum) (g : FuncId) → as_function x ≡ Some g → x ≡ FunctionOf g
named_function (ValueOf v) g e = absurd (none-some g e)
named_function (AddressOf p) g e = absurd (none-some g e)
named_function (FunctionOf h) g e = ap FunctionOf (same_Some h g e)

function_form : (m : Module) (w : World) (form : Form) (x : Datum) (g : FuncId) → DatumIs m w form x → x ≡ FunctionOf g → form ≡ OfFunction g
function_form m w _ _ g (DatumIs.value s v suits) e = absurd (cc)
function_form m w _ _ g (DatumIs.place p is) e = absurd (cc)
function_form m w _ _ g (DatumIs.function h) e = cc

function_told : (d : Declarations) (t : Option TypeName) (o : Option FuncId) (g : FuncId) → form_by d t o ≡ OfFunction g → o ≡ Some g
function_told d (Some t) o g e = absurd (typed (target t) e)
  where
    typed : (u : Option TypeName) → form_with d t u ≡ OfFunction g → ⊥
    typed None e = cc
    typed (Some u) e = cc
function_told d None (Some h) g e = let same : h ≡ g = cc in ap Some same
function_told d None None g e = absurd (cc)

-- ---- a call of a function with a body

abbrev by_told : List Told → List Operand → List Taken
by_told told os = taken_each os (map by_convention (map (λ (a : Told). a.convention) told))

module _ (m : Module) (g : FuncId) (f : Function) (a : IsAcceptedBody m g.0 f) (w : World) (memory : Memory) (entries : List Entry) (typed : EntriesAre m w f entries)
    (p : PointId) (i : Inst) (here : inst_at f p ≡ Some i) (ops : Operands)
    (found : operands_of (facts_in (declarations_of m) f) memory entries (item_taken f (item.Inst p)) ≡ Ok ops) where
  abbrev facts : ValueId → Option Facts
  facts = facts_in (declarations_of m) f

  abbrev all : List Taken
  all = item_taken f (item.Inst p)

  typed_function : OwnedFunction m f
  typed_function = (typed_module m a.verified).functions g.0 f a.body.there

  pub given : AllZip (IsTakenAs facts entries) all ops.given
  given = given_as m w f entries typed memory all ops (typed_function.items (item.Inst p)).taken found

  fits : FitEach m w f (map value_in i.operands) ops.given
  fits =
      subst (λ vs. FitEach m w f vs ops.given) (typed_function.insts p i here).takes
      (operands_fit m w f facts memory all entries ops typed (typed_function.items (item.Inst p)).taken found).0

  module _ (call : i.op ≡ op.Apply) (first : Datum) (h : FuncId) (args : List Datum) (are : ops.given ≡ first ∷ args) (names : as_function first ≡ Some h)
      (callee : Function) (there : slice_get m.functions h.0 ≡ Some callee) (b : IsAcceptedBody m h.0 callee) where
    pub at : IsAt f p.block.0 p.index i
    at = is_at f p i here

    pub c : Called m (well_typed m a.verified) g.0 f a.body.there p.block.0 p.index i at call
    c = called m (well_typed m a.verified) g.0 f a.body.there p.block.0 p.index i at call

    abbrev tolds : List Told
    tolds = arguments_of c.body.signature

    abbrev t : Taken
    t = taken_as c.value (by_row role.Used)

    abbrev others : List Taken
    others = by_told tolds c.handed

    handed : AllZip (IsHanded (declarations_of m) f) tolds c.handed
    handed = calls_handed m g.0 f a p.block.0 p.index i c.value c.handed c.body.signature at call c.operands c.told

    taken_are : all ≡ t ∷ others
    taken_are =
        ap (λ o. taken_in o ++ []) here ∙ append-nil (taken_by i)
        ∙ ap₂ (λ o os. taken_each os (roles_for (roles_of o) (conventions_in i) (length os))) call c.operands
        ∙ ap (λ cs. t ∷ taken_each c.handed (map by_convention cs)) (ap conventions_by c.told ∙ append-nil (conventions_of c.body.signature))

    given_each : AllZip (IsTakenAs facts entries) (t ∷ others) (first ∷ args)
    given_each = subst (AllZip (IsTakenAs facts entries) (t ∷ others)) are (subst (λ ts. AllZip (IsTakenAs facts entries) ts ops.given) taken_are given)

    fits_each : FitEach m w f (c.value.value ∷ map value_in c.handed) (first ∷ args)
    fits_each =
        subst (FitEach m w f (c.value.value ∷ map value_in c.handed)) are
        (subst (λ os. FitEach m w f (map value_in os) ops.given) c.operands fits)

    pub args_fit : FitEach m w f (map value_in c.handed) args
    args_fit = by fits_each
      where
        by : FitEach m w f (c.value.value ∷ map value_in c.handed) (first ∷ args) → FitEach m w f (map value_in c.handed) args
        by (FitEach.more _ _ _ _ fit rest) = rest

    -- the first operand is the callee
    is_body : c.body ≡ callee
    is_body = by fits_each
      where
        by : FitEach m w f (c.value.value ∷ map value_in c.handed) (first ∷ args) → c.body ≡ callee
        by (FitEach.more _ _ _ _ fit rest) =
            let form = function_form m w _ first h fit.is (named_function first h names) in
            let told = function_told (declarations_of m) (type_in (declarations_of m) f c.value.value) (function_at (value_functions f) c.value.value.0) h form in
            let same : c.named ≡ h = same_Some c.named h (sym c.stands_for ∙ told) in
            same_Some c.body callee (sym c.there ∙ ap (λ (k : FuncId). slice_get m.functions k.0) same ∙ there)

    parameters : AllZip (IsToldOf (declarations_of m) callee) tolds (args_of callee 0)
    parameters =
        subst (λ (k : Function). AllZip (IsToldOf (declarations_of m) callee) (arguments_of k.signature) (args_of callee 0)) (sym is_body) (entry_told m h.0 callee b)

    have_types : Each (HasItsType (declarations_of m) callee) (args_of callee 0)
    have_types = each_from (HasItsType (declarations_of m) callee) (args_of callee 0) (λ k x is. (argument_rows m h.0 callee b 0 k x is).typed)

    -- what ends is what begins
    pub arguments_hold : (weight : ObjectId → ℕ) → of_references weight (references_ended facts entries all)
        ≡ of_references weight (references_begun (facts_in (declarations_of m) callee) (item_defined callee item.Entry) (map as_argument args))
    arguments_hold weight =
        let both : of_references weight (references_ended facts entries (t ∷ others))
        ≡ of_references weight (references_ended_by facts entries t) + of_references weight (references_ended facts entries others) =
        total_append weight (references_ended_by facts entries t) (references_ended facts entries others) in
        let none = keeps_one facts entries weight t first given_each.0 (inl refl) in
        let rest : of_references weight (references_ended facts entries others)
        ≡ of_references weight (references_begun (facts_in (declarations_of m) callee) (item_defined callee item.Entry) (map as_argument args)) =
        arguments_handed m g h f callee b w entries tolds c.handed (args_of callee 0) args handed parameters have_types given_each.1 args_fit weight in
        let split : of_references weight (references_ended facts entries (t ∷ others))
        ≡ of_references weight (references_begun (facts_in (declarations_of m) callee) (item_defined callee item.Entry) (map as_argument args)) =
        omega (arith, both, none, rest) in
        ap (λ ts. of_references weight (references_ended facts entries ts)) taken_are ∙ split
