-- A runnable module is typed in the words of a run: function by function, and its deinitialisers, classes, fields and sizes.
use Rattle.sil_ast.specs.declared.module.Module.{Module}
use Rattle.holder_model.specs.RunTyping.RunTyped.{RunnableIsTyped}
use Rattle.holder_model.specs.RunTyping.Runnable.{IsNotOwned, IsRunnable}
use Rattle.holder_model_typing.specs.RunTypingLaws.inner.WellTyped.{IsWellTyped}
use Rattle.holder_model_typing.proofs.RunTypingLaws.ClassFacts.{classes, fields_are_typed}
use Rattle.holder_model_typing.proofs.RunTypingLaws.DeinitFacts.{deinits}
use Rattle.holder_model_typing.proofs.RunTypingLaws.EndFacts.{ends, ends_take}
use Rattle.holder_model_typing.proofs.RunTypingLaws.FunctionFacts.{typed_function}
use Rattle.holder_model_typing.proofs.RunTypingLaws.Found.{each_at}
use Rattle.holder_model_typing.proofs.RunTypingLaws.ItemFacts.{item_is_of}
use Rattle.holder_model_typing.proofs.RunTypingLaws.Rows.Insts.{inst_is_typed}
use Rattle.holder_model_typing.proofs.RunTypingLaws.ShapeFacts.{sizes}
use Rattle.holder_model_typing.proofs.RunTypingLaws.SignatureFacts.{entry_carried}

pub well_typed : (m : Module) → IsRunnable m → IsWellTyped m
well_typed m r = record { numbered = r.numbered; declared = r.declared; limits = r.limits; typed = r.typed }

pub runnable_is_typed : RunnableIsTyped
runnable_is_typed m runnable = let r = well_typed m runnable in record {
  functions = λ n f there. let typed = typed_function m r n f there in let not_owned = each_at IsNotOwned m.functions n f runnable.lowered there in record {
    insts = λ p i here. inst_is_typed m r n f there p i here not_owned;
    ends = ends m r f typed not_owned;
    ends_take = ends_take m r f typed;
    items = item_is_of m f typed;
    entry = entry_carried m f typed;
  };
  deinits = deinits m r;
  classes = classes m r;
  fields = fields_are_typed m r;
  sizes = sizes m r;
}
