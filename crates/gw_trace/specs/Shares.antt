-- Shares of a list of frames among so many ports.
use Rattle.std.specs.Prelude.{ℕ, zero, suc, ◌+◌, ◌%◌, ◌==◌, if◌then◌else◌, List, [], ◌∷◌}

-- of frames numbered from i on, those whose number leaves the port's number over when it is divided by the number of ports
abbrev pub shared_from : ℕ → ℕ → ℕ → List (List ℕ) → List (List ℕ)
shared_from i port ports [] = []
shared_from i port ports (frame ∷ frames) =
    if i % ports == port then frame ∷ shared_from (i + 1) port ports frames else shared_from (i + 1) port ports frames

-- the port's share: the frames i with i mod ports = port, in order
abbrev pub share_of : ℕ → ℕ → List (List ℕ) → List (List ℕ)
share_of port ports frames = shared_from 0 port ports frames

-- every frame behind so many, and then behind so many others each
abbrev pub every : ℕ → ℕ → List (List ℕ) → List (List ℕ)
every skip others [] = []
every zero others (frame ∷ frames) = frame ∷ every others others frames
every (suc skip) others (frame ∷ frames) = every skip others frames
