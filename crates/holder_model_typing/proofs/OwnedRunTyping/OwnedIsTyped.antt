-- A typed module in ownership form is typed in the words of a run: function by function, and its deinitialisers, classes, fields and sizes.
use Rattle.std.proofs.Common.{◌≡◌, ℕ, refl, ap, Some, None}
use Rattle.std.specs.Prelude.{slice_get}
use Rattle.numbered_form.specs.PointChecks.Points.{IsAt}
use Rattle.sil_ast.specs.declared.function.Block.{Block}
use Rattle.sil_ast.specs.declared.function.Form.{Form}
use Rattle.sil_ast.specs.declared.function.Form.TheVariants.{External, Lowered, Ossa}
use Rattle.sil_ast.specs.declared.function.Function.{Function}
use Rattle.sil_ast.specs.declared.module.Module.{Module}
use Rattle.holder_model_typing.proofs.RunTypingLaws.ClassFacts.{classes, fields_are_typed}
use Rattle.holder_model_typing.proofs.RunTypingLaws.DeinitFacts.{deinits}
use Rattle.holder_model_typing.proofs.RunTypingLaws.EndFacts.{ends_take}
use Rattle.holder_model_typing.proofs.RunTypingLaws.FunctionFacts.{TypedFunction, typed_function}
use Rattle.holder_model_typing.proofs.RunTypingLaws.ItemFacts.{item_is_of}
use Rattle.holder_model_typing.proofs.RunTypingLaws.Rows.Points.{is_at}
use Rattle.holder_model_typing.proofs.RunTypingLaws.ShapeFacts.{sizes}
use Rattle.holder_model_typing.proofs.RunTypingLaws.SignatureFacts.{entry_carried}
use Rattle.holder_model_typing.specs.OwnedRunTyping.inner.OwnedTyped.{HasNoLowered, OwnedIsTyped}
use Rattle.holder_model_typing.proofs.OwnedRunTyping.OwnedEndForms.{owned_ends}
use Rattle.holder_model_typing.proofs.OwnedRunTyping.OwnedInsts.{owned_inst}

-- a function with a block is in ownership form
owned_form : (m : Module) → HasNoLowered m → (n : ℕ) (f : Function) → slice_get m.functions n ≡ Some f → TypedFunction m f → (b : ℕ) (block : Block)
    → slice_get f.blocks b ≡ Some block → f.form ≡ Ossa
owned_form m owned n f there typed b block is = at f.form refl
  where
    at : (x : Form) → f.form ≡ x → x ≡ Ossa
    at Ossa e = refl
    at Lowered e = absurd (owned n f there e)
    at External e = let none : slice_get f.blocks b ≡ None = ap (λ bs. slice_get bs b) (typed.formed.external.0 e) in absurd (cc)

pub owned_is_typed : OwnedIsTyped
owned_is_typed m r owned = record {
  functions = λ n f there. let typed = typed_function m r n f there in record {
    insts = λ p i here. let at : IsAt f p.block.0 p.index i = is_at f p i here in
        owned_inst m r n f there p i here (owned_form m owned n f there typed p.block.0 at.within at.is_block);
    ends = owned_ends m r f typed;
    ends_take = ends_take m r f typed;
    items = item_is_of m f typed;
    entry = entry_carried m f typed;
  };
  deinits = deinits m r;
  classes = classes m r;
  fields = fields_are_typed m r;
  sizes = sizes m r;
}
