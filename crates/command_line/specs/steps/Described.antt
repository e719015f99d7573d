-- The rules that the table of commands gives `clap`.
use Rattle.std.specs.Prelude.{◌≡◌, true, false, [], codes, fold}
use Rattle.clap.specs.Simple.{App, Shape, app_of, new_app, new_shape, with_rule, with_subcommand}
use Rattle.clap.specs.Walk.{Rule}
use Rattle.clap.specs.declared.builder.command.Command.{Command}
use Rattle.clap.specs.declared.builder.command.Command.TheViews.{out-Command}
use Rattle.command_line.specs.CommandLine.{files, flag, maybe, number, text, word}
use Rattle.command_line.specs.declared.arguments.Argument.{Argument}
use Rattle.command_line.specs.declared.arguments.Argument.TheVariants as arguments
use Rattle.command_line.specs.declared.commands.Description.{Description}

abbrev pub rule_for : Argument → Rule
rule_for (arguments.Flag name help) = flag name.now
rule_for (arguments.Text id name value is_required help) = text id.now name.now is_required
rule_for (arguments.Number name default numbers help) = number name.now default.now numbers
rule_for (arguments.Maybe name numbers help) = maybe name.now numbers
rule_for (arguments.Word id value help) = word id.now
rule_for (arguments.Files help) = files

abbrev pub with_argument : App → Argument → App
with_argument app argument = with_rule app (rule_for argument)

abbrev pub shape_for : Description → Shape
shape_for description = (fold with_argument (new_app description.name.now) description.arguments.now).top

abbrev pub with_description : App → Description → App
with_description app description = with_subcommand app (shape_for description)

-- the program before it has commands
abbrev pub program_alone : App
program_alone = record {
  top = record (new_shape (codes "preinit")) {
    no_binary_name = true;
    has_version = true;
    arg_required_else_help = true;
    subcommand_required = true;
  };
  subs = [];
}

-- no argument is one of the commands below, too
abbrev pub IsLocal : Command → Type 0
IsLocal command = (out-Command command).has_globals ≡ false

abbrev pub HasApp : App → Command → Type 0
HasApp app command = (app_of command ≡ app) × IsLocal command
