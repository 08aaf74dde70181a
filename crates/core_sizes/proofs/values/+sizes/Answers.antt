use Rattle.std.proofs.Common.{arith}
use Rattle.core_sizes.proofs.ExprNodes as nodes
use Rattle.core_sizes.proofs.values.+sizes.Goals as goal

pub value_size-returns-in-Constant : goal.value_size-returns-in-Constant
value_size-returns-in-Constant g t c =
    grind (arith, nodes.nodes_Constant (g.S.Sizes.measures c.args.scene.now) c.args.e.now _ c.in-Constant.is)

pub value_size-returns-in-Fixed : goal.value_size-returns-in-Fixed
value_size-returns-in-Fixed g t c =
    grind (arith, nodes.nodes_Fixed (g.S.Sizes.measures c.args.scene.now) c.args.e.now _ c.in-Fixed.is)

pub value_size-returns-in-Local : goal.value_size-returns-in-Local
value_size-returns-in-Local g t c =
    grind (arith, nodes.nodes_Local (g.S.Sizes.measures c.args.scene.now) c.args.e.now _ c.in-Local.is)

pub value_size-returns-in-Load : goal.value_size-returns-in-Load
value_size-returns-in-Load g t c =
    grind (arith, nodes.nodes_Load (g.S.Sizes.measures c.args.scene.now) c.args.e.now _ _ c.in-Load.is)

pub value_size-returns-in-Target : goal.value_size-returns-in-Target
value_size-returns-in-Target g t c =
    grind (arith, nodes.nodes_Target (g.S.Sizes.measures c.args.scene.now) c.args.e.now _ c.in-Target.is)

pub value_size-returns-in-Pointer : goal.value_size-returns-in-Pointer
value_size-returns-in-Pointer g t c =
    grind (arith, nodes.nodes_Pointer (g.S.Sizes.measures c.args.scene.now) c.args.e.now _ c.in-Pointer.is)

pub value_size-returns-in-Offset : goal.value_size-returns-in-Offset
value_size-returns-in-Offset g t c =
    grind (arith, nodes.nodes_Offset (g.S.Sizes.measures c.args.scene.now) c.args.e.now _ _ c.in-Offset.is)

pub value_size-returns-in-Extract : goal.value_size-returns-in-Extract
value_size-returns-in-Extract g t c =
    grind (arith, nodes.nodes_Extract (g.S.Sizes.measures c.args.scene.now) c.args.e.now _ _ _ c.in-Extract.is)

pub value_size-returns-in-Convert : goal.value_size-returns-in-Convert
value_size-returns-in-Convert g t c =
    grind (arith, nodes.nodes_Convert (g.S.Sizes.measures c.args.scene.now) c.args.e.now _ _ c.in-Convert.is)

pub value_size-returns-in-Cast : goal.value_size-returns-in-Cast
value_size-returns-in-Cast g t c =
    grind (arith, nodes.nodes_Cast (g.S.Sizes.measures c.args.scene.now) c.args.e.now _ _ c.in-Cast.is)

pub value_size-returns-in-Turn : goal.value_size-returns-in-Turn
value_size-returns-in-Turn g t c =
    grind (arith, nodes.nodes_Turn (g.S.Sizes.measures c.args.scene.now) c.args.e.now _ _ _ _ _ c.in-Turn.is)

pub value_size-returns-in-Not : goal.value_size-returns-in-Not
value_size-returns-in-Not g t c =
    grind (arith, nodes.nodes_Not (g.S.Sizes.measures c.args.scene.now) c.args.e.now _ c.in-Not.is)

pub value_size-returns-in-Operate : goal.value_size-returns-in-Operate
value_size-returns-in-Operate g t c =
    grind (arith, nodes.nodes_Operate (g.S.Sizes.measures c.args.scene.now) c.args.e.now _ _ _ _ _ c.in-Operate.is)

pub value_size-returns-in-And : goal.value_size-returns-in-And
value_size-returns-in-And g t c =
    grind (arith, nodes.nodes_And (g.S.Sizes.measures c.args.scene.now) c.args.e.now _ _ _ c.in-And.is)

pub value_size-returns-in-Or : goal.value_size-returns-in-Or
value_size-returns-in-Or g t c =
    grind (arith, nodes.nodes_Or (g.S.Sizes.measures c.args.scene.now) c.args.e.now _ _ _ c.in-Or.is)

pub value_size-returns-in-Choose : goal.value_size-returns-in-Choose
value_size-returns-in-Choose g t c =
    grind (arith, nodes.nodes_Choose (g.S.Sizes.measures c.args.scene.now) c.args.e.now _ _ _ _ c.in-Choose.is)

pub value_size-returns-in-Store : goal.value_size-returns-in-Store
value_size-returns-in-Store g t c =
    grind (arith, nodes.nodes_Store (g.S.Sizes.measures c.args.scene.now) c.args.e.now _ _ _ _ c.in-Store.is)

pub value_size-returns-in-Update : goal.value_size-returns-in-Update
value_size-returns-in-Update g t c =
    grind (arith, nodes.nodes_Update (g.S.Sizes.measures c.args.scene.now) c.args.e.now _ _ _ _ _ c.in-Update.is)

pub value_size-returns-in-Step : goal.value_size-returns-in-Step
value_size-returns-in-Step g t c =
    grind (arith, nodes.nodes_Step (g.S.Sizes.measures c.args.scene.now) c.args.e.now _ _ _ _ _ c.in-Step.is)

pub value_size-returns-in-Comma : goal.value_size-returns-in-Comma
value_size-returns-in-Comma g t c =
    grind (arith, nodes.nodes_Comma (g.S.Sizes.measures c.args.scene.now) c.args.e.now _ _ c.in-Comma.is)

pub value_size-returns-in-Call : goal.value_size-returns-in-Call
value_size-returns-in-Call g t c =
    grind (arith, nodes.nodes_Call (g.S.Sizes.measures c.args.scene.now) c.args.e.now _ _ _ _ _ c.in-Call.is)
