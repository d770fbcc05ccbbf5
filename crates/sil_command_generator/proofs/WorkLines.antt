-- The lines of the functions that do the work.
use Rattle.std.proofs.Common.{◌≡◌, ℕ, List, [], ◌∷◌, ◌++◌, codes, refl}
use Rattle.std.specs.Fmt.{digits}
use Rattle.std.specs.List.{flat_map}
use Rattle.sil_ast.specs.declared.function.Function.{Function}
use Rattle.sil_printer.specs.CanonicalFunctions.{blocks_text}
use Rattle.sil_printer.specs.Words.{line, quote}
use Rattle.sil_command_generator.specs.WorkFunctions.{work_blocks}
use Rattle.sil_command_generator.proofs.TypeTexts.{types}

abbrev lines : List (List ℕ) → List ℕ
lines texts = flat_map line texts

abbrev start_lines : List ℕ
start_lines = lines (
    codes "bb0:"
    ∷ codes "  %0 = integer_literal $Builtin.Int64, 0"
    ∷ codes "  %1 = enum $Optional<Node>, #Optional.none!enumelt"
    ∷ codes "  br bb1(%0 : $Builtin.Int64, %1 : $Optional<Node>)"
    ∷ []
    )

abbrev one_more_lines : List ℕ
one_more_lines = lines (
    codes "bb1(%2 : $Builtin.Int64, %3 : @owned $Optional<Node>):"
    ∷ codes "  %4 = alloc_ref $Node"
    ∷ codes "  %5 = begin_borrow %4 : $Node"
    ∷ codes "  %6 = ref_element_addr %5 : $Node, #Node.value"
    ∷ codes "  store %2 to [trivial] %6 : $*Builtin.Int64"
    ∷ codes "  %7 = ref_element_addr %5 : $Node, #Node.next"
    ∷ codes "  store %3 to [init] %7 : $*Optional<Node>"
    ∷ codes "  end_borrow %5 : $Node"
    ∷ codes "  %8 = copy_value %4 : $Node"
    ∷ codes "  debug_value %8 : $Node"
    ∷ codes "  destroy_value %8 : $Node"
    ∷ codes "  %9 = enum $Optional<Node>, #Optional.some!enumelt, %4 : $Node"
    ∷ codes "  %10 = integer_literal $Builtin.Int64, 1"
    ∷ codes "  %11 = integer_literal $Builtin.Int1, 0"
    ∷ (codes "  %12 = builtin " ++ quote ++ codes "sadd_with_overflow_Int64" ++ quote ++ codes "(%2 : $Builtin.Int64, %10 : $Builtin.Int64, %11 : $Builtin.Int1) : $(Builtin.Int64, Builtin.Int1)")
    ∷ codes "  %13 = tuple_extract %12 : $(Builtin.Int64, Builtin.Int1), 0"
    ∷ codes "  %14 = integer_literal $Builtin.Int64, 10"
    ∷ (codes "  %15 = builtin " ++ quote ++ codes "cmp_slt_Int64" ++ quote ++ codes "(%13 : $Builtin.Int64, %14 : $Builtin.Int64) : $Builtin.Int1")
    ∷ codes "  cond_br %15, bb2, bb3"
    ∷ []
    )

abbrev again_lines : List ℕ
again_lines = lines (
    codes "bb2:"
    ∷ codes "  br bb1(%13 : $Builtin.Int64, %9 : $Optional<Node>)"
    ∷ []
    )

abbrev end_lines : List ℕ
end_lines = lines (
    codes "bb3:"
    ∷ codes "  destroy_value %9 : $Optional<Node>"
    ∷ codes "  %16 = tuple ()"
    ∷ codes "  return %16 : $()"
    ∷ []
    )

abbrev pub work_lines : List ℕ
work_lines = start_lines ++ line [] ++ one_more_lines ++ line [] ++ again_lines ++ line [] ++ end_lines

pub work_text : (fs : List Function) → blocks_text fs work_blocks ≡ work_lines
unfolding digits
work_text fs = simp (types) refl
