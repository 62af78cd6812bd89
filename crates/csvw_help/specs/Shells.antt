-- The names of the shells.
use Rattle.std.specs.Prelude.{ℕ, List, codes}
use Rattle.csvw_help.specs.declared.shell.Shell.{Shell}
use Rattle.csvw_help.specs.declared.shell.Shell.TheVariants.{Bash, Zsh, Fish}

-- the name of a shell, as text
abbrev pub shell_name : Shell → List ℕ
shell_name Bash = codes "bash"
shell_name Zsh = codes "zsh"
shell_name Fish = codes "fish"
