-- What holds of a terminator's edges where it breaks no rule of typing.
use Rattle.std.proofs.Common.{◌≡◌, ℕ, suc, ◌<◌, ◌^◌, List, [], ◌∷◌, ◌++◌, length, refl, sym, ap, ◌∙◌, subst, arith, Bool, true, false, not, Option, Some, None}
use Rattle.std.specs.Prelude.{◌||◌, ◌==◌, ⊤, All, is_some, is_none, map}
use Rattle.std.specs.List.{list_all}
use Rattle.std.specs.Option.{option_to_list}
use Rattle.std.proofs.lemmas.Bool.{eqb-true}
use Rattle.std.proofs.lemmas.List.{length-map}
use Rattle.instruction_table.specs.Forms.{ending_of}
use Rattle.instruction_table.specs.declared.op.Op.{Op}
use Rattle.instruction_table.specs.declared.op.Op.TheVariants as op
use Rattle.sil_ast.specs.Blocks.{args_of}
use Rattle.sil_ast.specs.declared.function.Block.{Block}
use Rattle.sil_ast.specs.declared.function.Function.{Function}
use Rattle.sil_ast.specs.declared.inst.Edge.{Edge}
use Rattle.sil_ast.specs.declared.inst.Inst.{Inst}
use Rattle.sil_ast.specs.declared.operands.Operand.{Operand}
use Rattle.sil_ast.specs.declared.type_name.TypeName.{TypeName}
use Rattle.numbered_form.specs.inner.Limits.{IsDeclInLimits}
use Rattle.numbered_form.specs.Lists.{Each, is_empty}
use Rattle.numbered_form.specs.inner.Parts.{are_cases, are_edges_by, is_branch, is_typed}
use Rattle.ownership_kinds.specs.sil_types_declarations.TypeDefinitions.Declarations.{Declarations}
use Rattle.type_check.specs.sil_types.Typing.EdgeRules.{goes_to_entry, has_block_types, has_wrong_edge_arguments, have_wrong_arguments_by, is_to_entry}
use Rattle.type_check.specs.sil_types.Typing.RowTypes.{all_written, written}
use Rattle.type_check.specs.sil_types.Typing.Same.{all_pairs, is_same_type}
use Rattle.type_check.specs.sil_types.Typing.SwitchRules.{are_once, has_wrong_cases, has_wrong_cases_by, is_of_enum, leaves_out_case, misfits_default, misfits_payload}
use Rattle.type_check.specs.sil_types.Typing.SwitchRules.{names_other_case, places_of, repeats_case, shares_block, switches_wrongly}
use Rattle.type_check.specs.sil_types.Typing.Values.{arg_type}
use Rattle.sil_verifier_accepted.specs.TypedGraphLaws.inner.Ready.{AvoidsEntry, FitsBlock, FitsBlockBy, HasFittingEdges}
use Rattle.sil_verifier_accepted.proofs.TypedGraphLaws.Facts.{all_at, and_first, and_second, fails_at, never_fails, never_passes, passes_at}
use Rattle.sil_verifier_accepted.proofs.TypedGraphLaws.Switches.{few_edges, none_left}

-- ---- arguments

pairs-length : {A B : Type 0} (test : A → B → Bool) (xs : List A) (ys : List B) → all_pairs test xs ys ≡ true → length xs ≡ length ys
pairs-length test [] [] e = refl
pairs-length test [] (y ∷ ys) e = cc
pairs-length test (x ∷ xs) [] e = cc
pairs-length test (x ∷ xs) (y ∷ ys) e = ap suc (pairs-length test xs ys (and_second (test x y) (all_pairs test xs ys) e))

one_more : {A : Type 0} (o : Option A) (xs : List A) (n : ℕ) → is_some o ≡ true → length xs ≡ n → length (option_to_list o ++ xs) ≡ suc n
one_more None xs n e same = cc
one_more (Some x) xs n e same = ap suc same

-- where each operand has its type written, as many types are written as operands
written-length : (os : List Operand) → list_all is_typed os ≡ true → length (all_written os) ≡ length os
written-length [] e = refl
written-length (o ∷ os) e = one_more o.ty (all_written os) (length os) (and_first (is_typed o) (list_all is_typed os) e) (written-length os (and_second (is_typed o) (list_all is_typed os) e))

fits : (f : Function) (e : Edge) → is_branch e ≡ true → has_block_types f e ≡ true → FitsBlock f e
fits f e branch same =
    sym (written-length e.args (and_second (is_none e.case_of) (list_all is_typed e.args) branch))
    ∙ pairs-length is_same_type (all_written e.args) (map arg_type (args_of f e.block.0)) same
    ∙ length-map (args_of f e.block.0) arg_type

all_fit : (f : Function) (es : List Edge) → list_all is_branch es ≡ true → list_all (has_block_types f) es ≡ true → All (FitsBlock f) es
all_fit f es branches same = all_at (FitsBlock f) es (λ i e at. fits f e (passes_at is_branch es i e branches at) (passes_at (has_block_types f) es i e same at))

nothing_asked : (es : List Edge) → All (λ e. ⊤) es
nothing_asked es k d lt = tt

fit_by : (o : Op) (f : Function) (es : List Edge) → are_edges_by (ending_of o) es ≡ true → (have_wrong_arguments_by o f es ≡ true → ⊥) → All (FitsBlockBy (ending_of o) f) es
fit_by op.Br f es edges right = all_fit f es (and_second (length es == 1) (list_all is_branch es) edges) (never_fails (list_all (has_block_types f) es) right)
fit_by op.CondBr f es edges right = all_fit f es (and_second (length es == 2) (list_all is_branch es) edges) (never_fails (list_all (has_block_types f) es) right)
fit_by _ f es edges right = nothing_asked es

-- ---- the entry

avoids : (e : Edge) → is_to_entry e ≡ false → AvoidsEntry e
avoids e test same = let hit : is_to_entry e ≡ true = subst (λ n. (n == 0) ≡ true) (sym same) refl in cc

-- ---- both: the edges fit

pub fitting_edges : (f : Function) (b : Block) → are_edges_by (ending_of b.terminator.op) b.terminator.edges ≡ true → (has_wrong_edge_arguments f b.terminator ≡ true → ⊥)
    → (goes_to_entry b.terminator ≡ true → ⊥) → HasFittingEdges f b
unfolding has_wrong_edge_arguments goes_to_entry
fitting_edges f b edges same entry =
    let i = b.terminator in
    record {
      entry = let misses = never_passes (goes_to_entry i) entry in all_at AvoidsEntry i.edges (λ k e at. avoids e (fails_at is_to_entry i.edges k e misses at));
      arguments = fit_by i.op f i.edges edges same;
    }

-- ---- how many

neither_first : (a b : Bool) → ((a || b) ≡ true → ⊥) → a ≡ true → ⊥
neither_first true b misses e = misses refl
neither_first false b misses e = cc

neither_second : (a b : Bool) → ((a || b) ≡ true → ⊥) → b ≡ true → ⊥
neither_second true b misses e = misses refl
neither_second false b misses e = misses e

few_in_switch : (d : Declarations) (f : Function) → Each IsDeclInLimits d.decls → (es : List Edge) → are_cases es ≡ true → (o : Option TypeName)
    → (switches_wrongly d f es o ≡ true → ⊥) → length es < 2 ^ 32
few_in_switch d f members es cases None right = absurd (right refl)
few_in_switch d f members es cases (Some t) right =
    let two = names_other_case d t es || repeats_case d t es in
    let three = two || leaves_out_case d t es in
    let four = three || shares_block f es in
    let five = four || misfits_payload d f t es in
    let here : two ≡ true → ⊥ =
    neither_first two (leaves_out_case d t es) (neither_first three (shares_block f es)
    (neither_first four (misfits_payload d f t es) (neither_first five (misfits_default f t es) right))) in
    let of_enum : list_all (is_of_enum d t) es ≡ true = never_fails (list_all (is_of_enum d t) es) (neither_first (names_other_case d t es) (repeats_case d t es) here) in
    let once : are_once (places_of d t es) ≡ true = never_fails (are_once (places_of d t es)) (neither_second (names_other_case d t es) (repeats_case d t es) here) in
    let few = few_edges d t members es cases of_enum once in
    omega (arith, few)

few_by : (o : Op) (d : Declarations) (f : Function) (i : Inst) → Each IsDeclInLimits d.decls → are_edges_by (ending_of o) i.edges ≡ true →
    (has_wrong_cases_by o d f i ≡ true → ⊥) → length i.edges < 2 ^ 32
few_by op.Br d f i members edges right = let one = eqb-true (length i.edges) 1 (and_first (length i.edges == 1) (list_all is_branch i.edges) edges) in omega arith
few_by op.CondBr d f i members edges right = let two = eqb-true (length i.edges) 2 (and_first (length i.edges == 2) (list_all is_branch i.edges) edges) in omega arith
few_by op.SwitchEnum d f i members edges right = few_in_switch d f members i.edges (and_second (not (is_empty i.edges)) (are_cases i.edges) edges) (written 0 i) right
few_by _ d f i members edges right = let none = none_left i.edges edges in omega arith

pub few_edges_at : (d : Declarations) (f : Function) (i : Inst) → Each IsDeclInLimits d.decls → are_edges_by (ending_of i.op) i.edges ≡ true → (has_wrong_cases d f i ≡ true → ⊥)
    → length i.edges < 2 ^ 32
few_edges_at d f i members edges right = few_by i.op d f i members edges right
