-- The words of a simulation, in order, and the numbers that are drawn from them.
use Rattle.std.specs.Prelude.{ℕ, ◌%◌}
use Rattle.std.proofs.Common.{zero, suc}
use Rattle.rand_core.specs.Pcg32Seed.{pcg32_seed}
use Rattle.rand_pcg.specs.Lcg.{Lcg}
use Rattle.rand_pcg.specs.Pcg.{pcg32, pcg32_of_seed}

-- the generator of a seed
unfoldable pub seeded : ℕ → Lcg
seeded seed = pcg32_of_seed (pcg32_seed 16 seed)

-- the next word of a generator
unfoldable pub word : Lcg → ℕ
word words = (pcg32 words).0

-- the generator behind its next word
unfoldable pub later : Lcg → Lcg
later words = (pcg32 words).1

-- the generator behind so many words
abbrev pub behind : ℕ → Lcg → Lcg
behind zero words = words
behind (suc count) words = behind count (later words)

-- the number below a bound that the word at a place gives, where the next word is at 0
abbrev pub draw : ℕ → ℕ → Lcg → ℕ
draw place bound words = word (behind place words) % bound
