-- The functions that do the work: each makes a list of ten nodes, one in front of another, with a copy of each, and drops it.
use Rattle.std.specs.Prelude.{ℕ, List, [], ◌∷◌, ◌++◌, Some, pos, codes, decimal}
use Rattle.instruction_table.specs.declared.op.Op.TheVariants as op
use Rattle.sil_ast.specs.declared.function.ArgKind.TheVariants as kind
use Rattle.sil_ast.specs.declared.function.Block.{Block}
use Rattle.sil_ast.specs.declared.function.Function.{Function}
use Rattle.sil_ast.specs.declared.inst.Inst.{Inst}
use Rattle.sil_ast.specs.declared.inst.Qualifier.TheVariants as qualifier
use Rattle.sil_ast.specs.declared.type_name.TypeName.TheVariants as type
use Rattle.sil_ast.specs.declared.type_name.TypeName.{TypeName}
use Rattle.sil_command_generator.specs.Parts.{v, typed, bare, member, inst, edge, arg, block, function}

abbrev pub int : TypeName
int = type.Int 64

abbrev pub flag : TypeName
flag = type.Int 1

-- what a sum gives: the sum, and whether it overflows
abbrev pub sum_and_flag : TypeName
sum_and_flag = type.Tuple (int ∷ flag ∷ [])

abbrev pub node : TypeName
node = type.Named (codes "Node")

abbrev pub list : TypeName
list = type.Optional node

-- `%n = integer_literal $T, x`
abbrev pub literal : ℕ → TypeName → ℕ → Inst
literal n t x = record (inst op.IntegerLiteral (v n ∷ []) []) { ty = Some t; number = Some (pos x) }

-- `%n = tuple ()`, and `return %n : $()`
abbrev pub empty_tuple : ℕ → Inst
empty_tuple n = inst op.Tuple (v n ∷ []) []

abbrev pub return_of : ℕ → Inst
return_of n = inst op.Return [] (typed n (type.Tuple []) ∷ [])

-- `%n = ref_element_addr %5 : $Node, #Node.f`
abbrev pub field_address : ℕ → List ℕ → Inst
field_address n name = record (inst op.RefElementAddr (v n ∷ []) (typed 5 node ∷ [])) { member = Some (member (codes "Node") name) }

-- the list is empty, and no node is made
abbrev pub start : Block
start = block [] (
    literal 0 int 0
    ∷ record (inst op.Enum (v 1 ∷ []) []) { ty = Some list; member = Some (member (codes "Optional") (codes "none")) }
    ∷ []
    ) (record (inst op.Br [] []) { edges = edge 1 (typed 0 int ∷ typed 1 list ∷ []) ∷ [] })

-- from the number %2 of nodes that are made, and their list %3: the next node, in front of them
abbrev pub next_node : List Inst
next_node =
    record (inst op.AllocRef (v 4 ∷ []) []) { ty = Some node }
    ∷ inst op.BeginBorrow (v 5 ∷ []) (typed 4 node ∷ [])
    ∷ field_address 6 (codes "value")
    ∷ record (inst op.Store [] (bare 2 ∷ typed 6 (type.Address int) ∷ [])) { qualifier = qualifier.Trivial }
    ∷ field_address 7 (codes "next")
    ∷ record (inst op.Store [] (bare 3 ∷ typed 7 (type.Address list) ∷ [])) { qualifier = qualifier.Init }
    ∷ inst op.EndBorrow [] (typed 5 node ∷ [])
    ∷ []

-- a copy of it, which is shown and destroyed
abbrev pub copy_of_it : List Inst
copy_of_it =
    inst op.CopyValue (v 8 ∷ []) (typed 4 node ∷ [])
    ∷ inst op.DebugValue [] (typed 8 node ∷ [])
    ∷ inst op.DestroyValue [] (typed 8 node ∷ [])
    ∷ record (inst op.Enum (v 9 ∷ []) (typed 4 node ∷ [])) { ty = Some list; member = Some (member (codes "Optional") (codes "some")) }
    ∷ []

-- one more is made, and whether these are fewer than ten
abbrev pub counted : List Inst
counted =
    literal 10 int 1
    ∷ literal 11 flag 0
    ∷ record (inst op.Builtin (v 12 ∷ []) (typed 2 int ∷ typed 10 int ∷ typed 11 flag ∷ [])) {
      ty = Some sum_and_flag;
      text = Some (codes "sadd_with_overflow_Int64");
    }
    ∷ record (inst op.TupleExtract (v 13 ∷ []) (typed 12 sum_and_flag ∷ [])) { number = Some (pos 0) }
    ∷ literal 14 int 10
    ∷ record (inst op.Builtin (v 15 ∷ []) (typed 13 int ∷ typed 14 int ∷ [])) { ty = Some flag; text = Some (codes "cmp_slt_Int64") }
    ∷ []

abbrev pub one_more : Block
one_more = block (arg 2 kind.Plain int ∷ arg 3 kind.Owned list ∷ []) (next_node ++ copy_of_it ++ counted) (
    record (inst op.CondBr [] (bare 15 ∷ [])) { edges = edge 2 [] ∷ edge 3 [] ∷ [] }
    )

abbrev pub again : Block
again = block [] [] (record (inst op.Br [] []) { edges = edge 1 (typed 13 int ∷ typed 9 list ∷ []) ∷ [] })

-- the list is dropped
abbrev pub end : Block
end = block [] (inst op.DestroyValue [] (typed 9 list ∷ []) ∷ empty_tuple 16 ∷ []) (return_of 16)

abbrev pub work_blocks : List Block
work_blocks = start ∷ one_more ∷ again ∷ end ∷ []

-- `@work0`, `@work1` and so on, which differ in their names alone
abbrev pub work : ℕ → Function
work k = function (codes "work" ++ decimal k) work_blocks
