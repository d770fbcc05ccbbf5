-- What holds of a function with a body of an accepted module: it is typed, its values are counted, and no rule on kinds is broken.
use Rattle.std.proofs.Common.{◌≡◌, ℕ, ◌+◌, ◌<◌, ◌≤◌, List, [], ◌∷◌, length, length-append, refl, arith, true, false, None, ◌⊎◌, inl, inr}
use Rattle.std.specs.Prelude.{◌^◌, Contains}
use Rattle.std.proofs.lemmas.Bool.{cases_lt}
use Rattle.sil_ast.specs.declared.function.Block.{Block}
use Rattle.sil_ast.specs.declared.function.Form.{Form}
use Rattle.sil_ast.specs.declared.function.Form.TheVariants.{Ossa, Lowered, External}
use Rattle.sil_ast.specs.declared.function.Function.{Function}
use Rattle.sil_ast.specs.declared.module.Module.{Module}
use Rattle.sil_ast.specs.declared.place.ValueId.{ValueId}
use Rattle.holder_model_typing.specs.holder_model.Frames.{has_any}
use Rattle.numbered_form.proofs.Lists.{contained, each_weaker}
use Rattle.sil_verifier_accepted.proofs.ownership_kinds.Defined.{defined_somewhere}
use Rattle.holder_model_typing.proofs.ownership_kinds_chains.OwnershipChains.NoRings.{ring_inside}
use Rattle.numbered_form.specs.Insts.{insts_in, insts_of}
use Rattle.numbered_form.specs.Lists.{Each}
use Rattle.numbered_form.specs.Numbering.{AreCountedFrom, values_of}
use Rattle.numbered_form.specs.inner.Limits.{IsFunctionInLimits}
use Rattle.holder_model_typing.specs.ownership_kinds_chains.OwnershipChains.Chains.{HasNoRing, IsInRange}
use Rattle.sil_verifier_accepted.specs.ownership_kinds.Statics.{HasKinds}
use Rattle.sil_verifier_accepted.specs.ownership_kinds.Statics.IsBroken.{on_ring}
use Rattle.holder_model_typing.proofs.ownership_kinds_origins.Counts.{are_of_values}
use Rattle.holder_model_typing.proofs.ownership_kinds_origins.Ranges.{are_in_range}
use Rattle.holder_model_typing.specs.ownership_kinds_origins.Origins.{definitions_of}
use Rattle.sil_rules.specs.declared.rule_faults.fault.RuleFault.{RuleFault}
use Rattle.holder_model_typing.specs.holder_model.RunTyping.Runnable.{IsBodyInLimits, IsShort}
use Rattle.holder_model_typing.proofs.RunTypingLaws.FunctionFacts.{TypedFunction, typed_function}
use Rattle.holder_model_typing.proofs.RunTypingLaws.SignatureFacts.{inner_form}
use Rattle.sil_rules.specs.declared.limits.TheConstants.{INSTRUCTIONS}
use Rattle.sil_rules.specs.declared.rule.Rule.{Rule}
use Rattle.sil_rules.specs.declared.rule.Rule.TheVariants as rule
use Rattle.holder_model_typing.specs.sil_types.Typing.SignatureRules.{is_external}
use Rattle.sil_verifier_accepted.specs.AcceptedModules.Refusals.{lowered}
use Rattle.sil_verifier_accepted.specs.AcceptedModules.Shown.IsShownIn.{kind}
use Rattle.holder_model_typing.specs.sil_types_declarations.TypeDefinitions.Declarations.{declarations_of}
use Rattle.sil_verifier_values.specs.inner.Known.{AreWellTyped, IsAcceptedBody, IsValue}

-- ---- the limit on instructions holds of each block

all_short : (bs : List Block) (n : ℕ) → n < 2 ^ 32 → length (insts_in bs) ≤ n → Each IsShort bs
all_short [] n few le = tt
all_short (b ∷ bs) n few le =
    let both : length (insts_in (b ∷ bs)) ≡ length (insts_of b) + length (insts_in bs) = length-append (insts_of b) (insts_in bs) in
    (omega arith, all_short bs n few (omega arith))

body_in_limits : (f : Function) → IsFunctionInLimits f → IsBodyInLimits f
body_in_limits f h = record {
  attributes = h.attributes;
  signature = h.signature;
  blocks = h.blocks;
  values = h.values;
  each = h.each;
  short = all_short f.blocks INSTRUCTIONS (omega arith) h.insts;
}

pub well_typed : AreWellTyped
well_typed m v = record {
  numbered = record {
    numbering = v.numbered.numbering;
    parts = v.numbered.parts;
    literals = v.numbered.literals;
    fields = v.numbered.fields;
    names = v.numbered.names;
    once = v.numbered.once;
    types = v.numbered.types;
    functions = v.numbered.functions;
    limits = record {
      declarations = v.numbered.limits.declarations;
      members = v.numbered.limits.members;
      functions = v.numbered.limits.functions;
      each = each_weaker IsFunctionInLimits IsBodyInLimits body_in_limits m.functions v.numbered.limits.each;
    };
  };
  declared = v.accepted.types.declared.0;
  limits = v.accepted.types.declared.1;
  typed = v.accepted.types.typed;
}

module _ (m : Module) (n : ℕ) (f : Function) (a : IsAcceptedBody m n f) where
  pub typed : TypedFunction m f
  typed = typed_function m (well_typed m a.verified) n f a.body.there

  pub counted : AreCountedFrom 0 (values_of f.blocks)
  counted = typed.numbered.values

  pub member : Contains m.functions f
  member = contained m.functions n f a.body.there

  -- it is in ownership form, since it has a body
  pub in_ownership_form : f.form ≡ Ossa
  in_ownership_form = at f.form refl
    where
      some : (bs : List Block) → 0 < length bs → has_any bs ≡ true
      some [] lt = absurd (omega arith)
      some (b ∷ bs) lt = refl

      at : (o : Form) → f.form ≡ o → f.form ≡ Ossa
      at Ossa e = e
      at Lowered e = absurd (a.verified.accepted.types.owned _ (lowered n f a.body.there e))
      at External e = let inner : is_external f.form ≡ false = inner_form m f typed (some f.blocks a.body.body) in cc

  abbrev fault : Rule → ValueId → ℕ → ℕ → RuleFault
  fault r v b k = record { rule = r; subject = v; other = None; point = record { block = record { 0 = b }; index = k }; walk = [] }

  -- 302 to 305
  pub has_kinds : HasKinds (declarations_of m) f
  has_kinds r v b k broken =
      a.verified.accepted.values (record { function = n; showing = fault r v b k }) (record { within = f; is_body = a.body; shown = kind refl refl broken })

  pub in_range : IsInRange (definitions_of (declarations_of m) f)
  in_range = (are_in_range (declarations_of m) m f a.verified.numbered member).0

  pub as_many : length (definitions_of (declarations_of m) f) ≡ length (values_of f.blocks)
  as_many = (are_of_values (declarations_of m) f).0

  -- no chain returns to where it began
  pub no_ring : HasNoRing (definitions_of (declarations_of m) f)
  no_ring v cyclic = at (cases_lt v.0 (length (definitions_of (declarations_of m) f)))
    where
      at : (v.0 < length (definitions_of (declarations_of m) f)) ⊎ (length (definitions_of (declarations_of m) f) ≤ v.0) → ⊥
      at (inl lt) =
          let level : length (definitions_of (declarations_of m) f) ≡ length (values_of f.blocks) = as_many in
          let inside : IsValue f v = omega arith in
          let point = defined_somewhere v f counted inside in
          has_kinds rule.CyclicForwarding v point.0 point.1 (on_ring v point.0 point.1 (inl cyclic) point.2)
      at (inr le) = ring_inside (definitions_of (declarations_of m) f) v v cyclic le
