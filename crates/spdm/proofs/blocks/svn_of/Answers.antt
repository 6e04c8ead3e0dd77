use Rattle.std.proofs.Common.{◌≡◌, length, arith, ltb-false, ltb-true}
use Rattle.std.proofs.lemmas.Bool.Decides.{nat_tests}
use Rattle.spdm.specs.Blocks.{little}
use Rattle.spdm.specs.Sizes.{little_eight}
use Rattle.spdm.proofs.blocks.svn_of.Goals as goal

pub returns-then-svn-gt4294967295 : goal.returns-then-svn-gt4294967295
returns-then-svn-gt4294967295 c =
    let long : length c.args.value.now ≡ 8 = omega (arith, ltb-true, ltb-false) in
    let e : c.from_le_bytes-svn.result ≡ little c.args.value.now = omega (arith, little_eight c.args.value.now long) in
    grind (arith, nat_tests)

pub returns : goal.returns
returns c =
    let long : length c.args.value.now ≡ 8 = omega (arith, ltb-true, ltb-false) in
    let e : c.from_le_bytes-svn.result ≡ little c.args.value.now = omega (arith, little_eight c.args.value.now long) in
    grind (arith, nat_tests)
