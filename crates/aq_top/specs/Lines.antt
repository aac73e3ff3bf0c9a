-- How the program is used.
use Rattle.std.specs.Prelude.{ℕ, List, ◌++◌, codes}

unfoldable pub usage_text : List ℕ
usage_text =
    codes "usage: autoq check PROG SETS [--pre NAME] [--post NAME] [--steps N] [--cert FILE]\n"
    ++ (codes "       autoq recheck PROG SETS CERT [--pre NAME] [--post NAME] [--steps N]\n"
    ++ (codes "       autoq replay PROG SETS --state NAME [--outcomes TEXT]\n"
    ++ codes "       autoq trial N\n"))
