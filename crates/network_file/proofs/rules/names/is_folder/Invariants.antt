use Rattle.std.proofs.Common.{◌≡◌, drop}
use Rattle.network_file.specs.Rules.{is_folder, is_path}
use Rattle.network_file.proofs.rules.names.is_folder.Given as goal

abbrev pub invariant-loop-byte : goal.invariant-loop-byte
invariant-loop-byte l = is_folder l.path ≡ is_path l.in_part (drop l.byte-index l.path)
