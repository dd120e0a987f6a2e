mod ListResumed
