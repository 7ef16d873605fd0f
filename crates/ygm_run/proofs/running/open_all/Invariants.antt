use Rattle.std.proofs.Common.{◌≡◌, ℕ, List, Some, length, map, slice_get, take}
use Rattle.ygm_run.specs.Words.{texts_of}
use Rattle.ygm_run.proofs.running.open_all.Given as goal

-- the first names were opened
abbrev pub invariant-loop-file : goal.invariant-loop-file
invariant-loop-file g l = record {
  opened : map g.F.Src.Source.left l.sources.items ≡ map (g.F.Files.content l.fn.files) (take l.file (texts_of l.names));
  fresh : (rank : ℕ) (source : _) → slice_get l.sources.items rank ≡ Some source → g.F.Src.Source.faults source ≡ 0;
  count : length l.sources.items ≡ l.file;
  same : (name : List ℕ) → g.F.Files.content l.files name ≡ g.F.Files.content l.fn.files name;
  stands : g.F.Files.faults l.files ≡ g.F.Files.faults l.fn.files;
}
