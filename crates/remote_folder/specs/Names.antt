-- The names of files in a folder.
use Rattle.std.specs.Prelude.{ℕ, ◌++◌, List, [], ◌∷◌, codes, decimal}

-- the folder's name, a slash and the path; for the root the folder's name alone
abbrev pub file_name : List ℕ → List ℕ → List ℕ
file_name folder [] = folder
file_name folder (b ∷ bs) = folder ++ 47 ∷ b ∷ bs

-- the name of the file of a stage, as .vfs-stage-7: the number in digits without a leading zero
abbrev pub stage_name : ℕ → List ℕ
stage_name number = codes ".vfs-stage-" ++ decimal number

-- the folder's name, a slash and the name of the stage's file
abbrev pub stage_path : List ℕ → ℕ → List ℕ
stage_path folder number = folder ++ 47 ∷ stage_name number
