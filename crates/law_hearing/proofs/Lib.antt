mod SaidFrames
mod ReadTexts
mod FoundTexts
