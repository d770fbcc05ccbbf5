-- The items that come next where a frame stands, and the edges that its terminator may choose.
use Rattle.std.proofs.Common.{◌≡◌, ℕ, ◌<◌, arith, List, [], ◌∷◌, ◌++◌, length, map, refl, sym, ap, ◌∙◌, subst, Bool, true, false, cond, Option, Some, None}
use Rattle.std.specs.Prelude.{◌==◌, not, position, slice_get}
use Rattle.std.specs.List.{list_all}
use Rattle.std.specs.Option.{option_or}
use Rattle.std.proofs.lemmas.Bool.{and_parts, eqb-true, not-true}
use Rattle.std.proofs.lemmas.List.Quantifiers.{position-Some}
use Rattle.std.proofs.lemmas.Option.{same_Some}
use Rattle.instruction_table.specs.Forms.{ending_of}
use Rattle.instruction_table.specs.declared.entries.Ending.{Ending}
use Rattle.instruction_table.specs.declared.entries.Ending.TheVariants as ending
use Rattle.sil_cfg_items.specs.Items.{item_taken, taken_along_in, taken_in}
use Rattle.sil_cfg_items.specs.Parts.{edge_at, inst_at, terminator_in, terminator_of}
use Rattle.sil_cfg_items.specs.Roles.{taken_by}
use Rattle.sil_cfg_items.specs.declared.taken.Taken.{Taken}
use Rattle.numbered_form.specs.Lists.{is_empty}
use Rattle.numbered_form.specs.inner.Parts.{are_cases, are_edges_by, is_branch}
use Rattle.holder_model_values.specs.RunValues.Shapes.{Shape}
use Rattle.holder_model_values.specs.RunValues.Values.{Value, case_of, integer_of}
use Rattle.sil_ast.specs.declared.function.Block.{Block}
use Rattle.sil_ast.specs.declared.function.Function.{Function}
use Rattle.sil_ast.specs.declared.inst.Edge as edge
use Rattle.sil_ast.specs.declared.inst.Inst as inst
use Rattle.sil_ast.specs.declared.module.Module.{Module}
use Rattle.sil_ast.specs.declared.operands.Operand.{Operand}
use Rattle.sil_ast.specs.declared.place.PointId.{PointId}
use Rattle.sil_cfg.specs.Items.{leaves_function}
use Rattle.sil_cfg.specs.Returns.{is_return, returns_by, returns_in}
use Rattle.sil_cfg.specs.declared.item.Item.{Item}
use Rattle.sil_cfg.specs.declared.item.Item.TheVariants as item
use Rattle.sil_verifier_trails.specs.sil_verifier_values.inner.Known.{IsAcceptedBody}
use Rattle.holder_model_laws.specs.holder_model.RunTyping.EndForms.{value_in}
use Rattle.sil_verifier_trails.proofs.sil_verifier_values.Branches.{known_end}
use Rattle.sil_verifier_trails.proofs.holder_model_typing.RunTypingLaws.Rows.Finding.{found_behind}
use Rattle.numbered_form.proofs.Lists.{mapped_from}
use Rattle.sil_verifier_trails.specs.RunTrails.inner.RunTrails.{ComesAt, GoesOn, IsRunTrail, IsTurnedTrail}
use Rattle.holder_model_laws.specs.holder_model.Builtins.{is_set}
use Rattle.holder_model_laws.specs.holder_model.Edges.{branch_of, edge_for, edge_of, is_default, is_for}
use Rattle.holder_model_laws.specs.holder_model.Frames.{Frame}
use Rattle.holder_model_laws.specs.holder_model.ModuleFacts.{ModuleFacts}
use Rattle.holder_model_laws.specs.holder_model.Standing.{stands_at}
use Rattle.holder_model_laws.specs.holder_model.StepParts.{switched_shape}
use Rattle.holder_model_laws.specs.holder_model.Steps.{shapes}
use Rattle.sil_verifier_trails.proofs.RunTrails.RunPaths.{are_trails}
use Rattle.sil_verifier_trails.proofs.RunTrails.WalkEdges.{are_next}
use Rattle.holder_model_laws.specs.HolderLaws.inner.Steps.Ways.{Chooses, StandsAtEnd}
use Rattle.sil_verifier_frames.proofs.Tracked.ConsumedValues.{owned_typed}
use Rattle.sil_verifier_frames.proofs.Tracked.HowValuesEnd.{accepted_in}

-- ---- where an edge stands

position_within : {A : Type 0} (p : A → Bool) (xs : List A) (k : ℕ) → position p xs ≡ Some k → k < length xs
position_within p [] k e = absurd (cc)
position_within p (x ∷ xs) k e = (position-Some p (x ∷ xs) k x e).0

edge_within : (s : Shape) (es : List edge.Edge) (c k : ℕ) → edge_for s es c ≡ Some k → k < length es
edge_within s es c k e = at (position (is_for s c) es) refl e
  where
    at : (o : Option ℕ) → position (is_for s c) es ≡ o → option_or o (position is_default es) ≡ Some k → k < length es
    at None is e = position_within is_default es k e
    at (Some j) is e = position_within (is_for s c) es k (is ∙ e)

bit_within : (v : Value) (k : ℕ) → branch_of v ≡ Some k → k < 2
bit_within v k e =
    let n = mapped_from (λ n. cond (is_set n) 0 1) (integer_of v) k e in
    subst (λ j. j < 2) n.2 (at (is_set n.0))
  where
    at : (b : Bool) → cond b 0 1 < 2
    at true = omega arith
    at false = omega arith

some_edge : (es : List edge.Edge) → is_empty es ≡ false → 0 < length es
some_edge [] e = absurd (cc)
some_edge (x ∷ es) e = omega arith

module _ (m : Module) (n : ℕ) (f : Function) (a : IsAcceptedBody m n f) (b : ℕ) (i : inst.Inst) (ends : terminator_of f b ≡ Some i) where
  edges_by : (e : Ending) → ending_of i.op ≡ e → are_edges_by e i.edges ≡ true
  edges_by e is = ap (λ x. are_edges_by x i.edges) (sym is) ∙ (known_end m n f a b i ends).parts.edges

  pub one_edge : ending_of i.op ≡ ending.OneBranch → 0 < length i.edges
  one_edge is =
      let one : length i.edges ≡ 1 = eqb-true (length i.edges) 1 (and_parts (length i.edges == 1) (list_all is_branch i.edges) (edges_by ending.OneBranch is)).0 in
      omega arith

  pub two_edges : ending_of i.op ≡ ending.TwoBranches → length i.edges ≡ 2
  two_edges is = eqb-true (length i.edges) 2 (and_parts (length i.edges == 2) (list_all is_branch i.edges) (edges_by ending.TwoBranches is)).0

  pub some_case : ending_of i.op ≡ ending.Cases → 0 < length i.edges
  some_case is = some_edge i.edges (not-true (is_empty i.edges) (and_parts (not (is_empty i.edges)) (are_cases i.edges) (edges_by ending.Cases is)).0)

module _ (m : Module) (told : ModuleFacts) (bound : ℕ) (n : ℕ) (f : Function) (a : IsAcceptedBody m n f) (frame : Frame) (i : inst.Inst)
    (stands : StandsAtEnd m told bound frame f i) where
  -- an edge that is chosen is there, and there is a first one
  pub chosen_within : (choose : Value → Option ℕ) → Chooses m told bound frame i choose → (v : Value) (k : ℕ) → choose v ≡ Some k → k < length i.edges
  chosen_within choose (Chooses.by_bit is) v k e =
      subst (λ j. k < j) (sym (two_edges m n f a (stands_at f frame.trail).block.0 i stands.terminator is)) (bit_within v k e)
  chosen_within choose (Chooses.by_case is) v k e =
      let c = found_behind (λ c. edge_for (switched_shape (shapes m told bound frame.function) i) i.edges c.index) (case_of v) k e in
      edge_within (switched_shape (shapes m told bound frame.function) i) i.edges c.0.index k c.2

  pub first_within : (choose : Value → Option ℕ) → Chooses m told bound frame i choose → 0 < length i.edges
  first_within choose (Chooses.by_bit is) = let two : length i.edges ≡ 2 = two_edges m n f a (stands_at f frame.trail).block.0 i stands.terminator is in omega arith
  first_within choose (Chooses.by_case is) = some_case m n f a (stands_at f frame.trail).block.0 i stands.terminator is

  pub chooses_on : (choose : Value → Option ℕ) → Chooses m told bound frame i choose → leaves_function (ending_of i.op) ≡ false
  chooses_on choose (Chooses.by_bit is) = ap leaves_function is
  chooses_on choose (Chooses.by_case is) = ap leaves_function is

  -- ---- the item that comes

  pub edge_comes : (k : ℕ) → leaves_function (ending_of i.op) ≡ false → k < length i.edges
      → ComesAt f (stands_at f frame.trail) (item.Edge (edge_of (stands_at f frame.trail) k))
  edge_comes k goes within =
      (refl, record { at_end = record { terminator = i; behind_insts = stands.behind; there = stands.terminator }; goes_on = goes; has_edge = within })

  pub exit_comes : ending_of i.op ≡ ending.Return → ComesAt f (stands_at f frame.trail) (item.Exit (stands_at f frame.trail))
  exit_comes is =
      (refl, record { at_end = record { terminator = i; behind_insts = stands.behind; there = stands.terminator }; leaves = ap leaves_function is })

  pub exit_returns : ending_of i.op ≡ ending.Return → is_return f (item.Exit (stands_at f frame.trail)) ≡ true
  exit_returns is = at (slice_get f.blocks (stands_at f frame.trail).block.0) stands.terminator
    where
      at : (o : Option Block) → terminator_in o ≡ Some i → returns_in o ≡ true
      at None e = absurd (cc)
      at (Some b) e = ap (λ (t : inst.Inst). returns_by (ending_of t.op)) (same_Some b.terminator i e) ∙ ap returns_by is

  -- the operand by which it chooses is the first that an edge takes
  pub record FirstTaken (o : Operand) (k : ℕ) : Type 0 where
    pub taken : Taken
    pub rest : List Taken
    pub parts : item_taken f (item.Edge (edge_of (stands_at f frame.trail) k)) ≡ taken ∷ rest
    pub is : taken.value ≡ o.value

  first_of_both : (xs : List Taken) (os : List Operand) (o : Operand) → map (λ (x : Taken). x.value) xs ≡ map value_in os → slice_get os 0 ≡ Some o
      → (x : Taken) × (rest : List Taken) × (xs ≡ x ∷ rest) × (x.value ≡ o.value)
  first_of_both xs [] o e there = absurd (cc)
  first_of_both [] (p ∷ os) o e there = absurd (cc)
  first_of_both (x ∷ xs) (p ∷ os) o e there = let head : x.value ≡ p.value = cc in (x, xs, refl, head ∙ ap value_in (same_Some p o there))

  pub first_taken : (o : Operand) (k : ℕ) → slice_get i.operands 0 ≡ Some o → FirstTaken o k
  first_taken o k there =
      let all = ((owned_typed m a.verified).functions n f a.body.there).ends_take (stands_at f frame.trail).block.0 i stands.terminator in
      let first = first_of_both (taken_by i) i.operands o all there in
      record {
        taken = first.0;
        rest = first.1 ++ taken_along_in (edge_at f (edge_of (stands_at f frame.trail) k));
        parts = ap (λ (t : Option inst.Inst). taken_in t ++ taken_along_in (edge_at f (edge_of (stands_at f frame.trail) k))) stands.terminator
            ∙ ap (λ xs. xs ++ taken_along_in (edge_at f (edge_of (stands_at f frame.trail) k))) first.2;
        is = first.3;
      }

-- with it the trail is one of the function
pub turned_next : (m : Module) (n : ℕ) (f : Function) → IsAcceptedBody m n f → (t : List Item) (i : Item) → IsRunTrail f t → GoesOn t → ComesAt f (stands_at f t) i
    → IsTurnedTrail f (i ∷ t)
turned_next m n f a t i trail goes comes = are_trails f (accepted_in m n f a).once (i ∷ t) (are_next f t i goes comes, trail)

pub inst_comes : (f : Function) (p : PointId) (i : inst.Inst) → inst_at f p ≡ Some i → ComesAt f p (item.Inst p)
inst_comes f p i here = (refl, i, here)
