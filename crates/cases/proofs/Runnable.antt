-- A module that was read and is typed may be run, where no function is in ownership form.
use Rattle.std.proofs.Common.{◌≡◌, ◌+◌, ◌<◌, ◌≤◌, ◌^◌, List, [], ◌∷◌, ◌++◌, length, arith, length-append}
use Rattle.sil_ast.specs.declared.function.Block.{Block}
use Rattle.sil_ast.specs.declared.function.Function.{Function}
use Rattle.sil_ast.specs.declared.module.Module.{Module}
use Rattle.numbered_form.specs.Insts.{insts_in, insts_of}
use Rattle.numbered_form.specs.Lists.{Each}
use Rattle.numbered_form.specs.inner.Limits.{IsFunctionInLimits}
use Rattle.numbered_form.specs.inner.NumberedForm.{IsNumbered}
use Rattle.sil_types_declarations.specs.TypeDefinitions.Declarations.{Declarations}
use Rattle.sil_types_declarations.specs.TypeDefinitions.Rules.{AreDeclarationsOf}
use Rattle.sil_types.specs.Typing.Typed.{Typed}
use Rattle.holder_model.specs.RunTyping.Runnable.{IsBodyInLimits, IsNotOwned, IsRunnable, IsShort}

are_short : (blocks : List Block) → length (insts_in blocks) < 2 ^ 32 → Each IsShort blocks
are_short [] lt = tt
are_short (b ∷ bs) lt = (omega (arith, whole, lt), are_short bs (omega (arith, whole, lt)))
  where
    whole : length (insts_in (b ∷ bs)) ≡ length (insts_of b) + length (insts_in bs)
    whole = length-append (insts_of b) (insts_in bs)

body_in_limits : (f : Function) → IsFunctionInLimits f → IsBodyInLimits f
body_in_limits f h = record {
  attributes = h.attributes;
  signature = h.signature;
  blocks = h.blocks;
  values = h.values;
  each = h.each;
  short = are_short f.blocks few;
}
  where
    few : length (insts_in f.blocks) < 2 ^ 32
    few = let at_most : length (insts_in f.blocks) ≤ 4096 = h.insts in omega (arith, at_most)

bodies_in_limits : (fs : List Function) → Each IsFunctionInLimits fs → Each IsBodyInLimits fs
bodies_in_limits [] h = tt
bodies_in_limits (f ∷ fs) h = (body_in_limits f h.0, bodies_in_limits fs h.1)

pub runnable : (d : Declarations) (m : Module) → IsNumbered m → AreDeclarationsOf d m → Typed m → Each IsNotOwned m.functions → IsRunnable m
runnable d m n known typed lowered = record {
  numbered = record {
    numbering = n.numbering;
    parts = n.parts;
    literals = n.literals;
    fields = n.fields;
    names = n.names;
    once = n.once;
    types = n.types;
    functions = n.functions;
    limits = record {
      declarations = n.limits.declarations;
      members = n.limits.members;
      functions = n.limits.functions;
      each = bodies_in_limits m.functions n.limits.each;
    };
  };
  declared = known.declared;
  limits = known.limits;
  typed = typed;
  lowered = lowered;
}
