-- Ready code where a frame stands: its function, its block, and its instruction or terminator.
use Rattle.std.proofs.Common.{◌≡◌, ◌∙◌, ℕ, zero, suc, List, ◌∷◌, Bool, Option, Some, None, refl, sym, ap, subst}
use Rattle.std.specs.Prelude.{slice_get}
use Rattle.std.proofs.lemmas.Option.{none-some, same_Some}
use Rattle.sil_cfg_items.specs.Parts.{inst_at, inst_in, terminator_in, terminator_of}
use Rattle.count_machine_model.specs.holder_model.LoweredRun.LowFrames.{LowFrame}
use Rattle.count_machine_model.specs.declared.machine_steps.frame.Frame.{Frame}
use Rattle.count_machine_model.specs.MachineSteps.Ends.{block_at, block_in}
use Rattle.count_machine_model.specs.MachineSteps.Views.{MachineView}
use Rattle.count_machine_model.specs.declared.ready_code.block.ReadyBlock.{ReadyBlock}
use Rattle.count_machine_model.specs.declared.ready_code.function.ReadyModule.{ReadyModule}
use Rattle.count_machine_model.specs.declared.ready_code.op.ReadyOp.{ReadyOp}
use Rattle.count_machine_model.specs.ReadyCode.Matched.{Matched, both, none}
use Rattle.count_machine_model.specs.ReadyCode.ReadyEnds.{IsReadyEnd}
use Rattle.count_machine_model.specs.ReadyCode.ReadyModules.{IsReadyBlock, IsReadyModule, Reaches}
use Rattle.count_machine_model.specs.ReadyCode.ReadyOps.{IsReadyOp}
use Rattle.count_machine_model.specs.holder_model.RunTyping.RunTyped.{FunctionIsTyped}
use Rattle.holder_model_values.specs.RunValues.Memory.{Memory}
use Rattle.sil_ast.specs.declared.function.Block.{Block}
use Rattle.sil_ast.specs.declared.function.Function.{Function}
use Rattle.sil_ast.specs.declared.inst.Inst.{Inst}
use Rattle.sil_ast.specs.declared.module.Module.{Module}
use Rattle.sil_types_declarations.specs.TypeDefinitions.Declarations.{declarations_of}
use Rattle.count_machine_laws.proofs.Entries.{Ends, FrameAgrees}
use Rattle.count_machine_laws.proofs.FrameSteps.{StandsAt}
use Rattle.count_machine_laws.proofs.Slots.{Made}

-- elements of lists that match, at one place
pub data MatchedAt {A B : Type 0} (match_ : A → B → Type 0) (xs : List A) (ys : List B) (k : ℕ) : Type 0 where
  past : slice_get xs k ≡ None → slice_get ys k ≡ None → MatchedAt match_ xs ys k
  at : (x : A) (y : B) → slice_get xs k ≡ Some x → slice_get ys k ≡ Some y → match_ x y → MatchedAt match_ xs ys k

pub matched_at : {A B : Type 0} {match_ : A → B → Type 0} {xs : List A} {ys : List B} → Matched match_ xs ys → (k : ℕ) → MatchedAt match_ xs ys k
matched_at none k = past refl refl
matched_at (both x y xs ys here rest) zero = at x y refl refl here
matched_at (both x y xs ys here rest) (suc k) = further (matched_at rest k)
  where
    further : {A B : Type 0} {match_ : A → B → Type 0} {x : A} {y : B} {xs : List A} {ys : List B} {k : ℕ} → MatchedAt match_ xs ys k → MatchedAt match_ (x ∷ xs) (y ∷ ys) (suc k)
    further (past e f) = past e f
    further (at v w e f is) = at v w e f is

pub matched_there : {A B : Type 0} {match_ : A → B → Type 0} {xs : List A} {ys : List B} → Matched match_ xs ys → (k : ℕ) (x : A) → slice_get xs k ≡ Some x
    → (y : B) × (slice_get ys k ≡ Some y) × match_ x y
matched_there none k x there = absurd (none-some x there)
matched_there {match_ = match_} (both x y xs ys here rest) zero v there = (y, refl, subst (λ w. match_ w y) (same_Some x v there) here)
matched_there (both x y xs ys here rest) (suc k) v there = matched_there rest k v there

-- the block where a frame stands, and its code
pub record ReadyWhere (m : Module) (ready : ReadyModule) (f : Function) (lf : LowFrame) (mf : Frame) : Type 0 where
  pub block : Block
  pub block_there : slice_get f.blocks lf.at.block.0 ≡ Some block
  pub code : ReadyBlock
  pub code_there : block_at ready mf.function mf.block ≡ Some code
  pub is_ready : IsReadyBlock m f block code
  pub index : mf.index ≡ lf.at.index

pub ready_where : {m : Module} {reached : List Bool} {ready : ReadyModule} {made : List Made} {mem : Memory} {st : MachineView} {f : Function} {lf : LowFrame} {mf : Frame} {below above : Ends}
    → IsReadyModule m reached ready → Reaches reached mf.function → FrameAgrees m made mem st f lf mf below above → ReadyWhere m ready f lf mf
ready_where {reached = reached} {ready = ready} {f = f} {lf = lf} {mf = mf} is reaches frame =
    let function = is.functions lf.function f (subst (Reaches reached) frame.same reaches) frame.there in
    let block = matched_there function.2.blocks mf.block frame.block frame.block_there in
    record {
      block = frame.block;
      block_there = ap (slice_get f.blocks) (sym frame.at_block) ∙ frame.block_there;
      code = block.0;
      code_there = ap (λ g. block_at ready g mf.block) frame.same ∙ ap (λ c. block_in c mf.block) function.1 ∙ block.1;
      is_ready = block.2;
      index = frame.at_index;
    }

-- the frame stands at an instruction that is made ready, or at the terminator
pub data Standing (m : Module) (ready : ReadyModule) (f : Function) (lf : LowFrame) (mf : Frame) : Type 0 where
  at_inst : (block : ReadyBlock) (i : Inst) (o : ReadyOp) → block_at ready mf.function mf.block ≡ Some block → slice_get block.ops mf.index ≡ Some o
      → StandsAt m f lf i o → Standing m ready f lf mf
  at_end : (block : ReadyBlock) (i : Inst) → block_at ready mf.function mf.block ≡ Some block → slice_get block.ops mf.index ≡ None → inst_at f lf.at ≡ None
      → terminator_of f lf.at.block.0 ≡ Some i → IsReadyEnd (declarations_of m) f i block.end → Standing m ready f lf mf

pub standing : {m : Module} {ready : ReadyModule} {f : Function} {lf : LowFrame} {mf : Frame} → FunctionIsTyped m f → ReadyWhere m ready f lf mf → Standing m ready f lf mf
standing {m = m} {ready = ready} {f = f} {lf = lf} {mf = mf} typed where_ = by (matched_at where_.is_ready.ops lf.at.index)
  where
    in_block : (x : Option Inst) → slice_get where_.block.insts lf.at.index ≡ x → inst_at f lf.at ≡ x
    in_block x e = ap (λ b. inst_in b lf.at.index) where_.block_there ∙ e

    by : MatchedAt (IsReadyOp m f) where_.block.insts where_.code.ops lf.at.index → Standing m ready f lf mf
    by (past e e') =
        at_end where_.code where_.block.terminator where_.code_there (ap (slice_get where_.code.ops) where_.index ∙ e') (in_block None e)
        (ap terminator_in where_.block_there) where_.is_ready.end
    by (at i o e e' is) =
        at_inst where_.code i o where_.code_there (ap (slice_get where_.code.ops) where_.index ∙ e')
        (record { inst = in_block (Some i) e; typed = typed.insts lf.at i (in_block (Some i) e); made_ready = is })
